-- What the program did, by what a call of it did.
use Rattle.std.specs.Prelude.{◌≡◌}
use Rattle.scopectl.specs.{ℕ, Acts, Answers, CommandLine, Err, IsNotUnderstood, IsRead, IsSaid, LineFault, List, Memory, Ok, Result, Run, Says, line_of}
use Rattle.scopectl.proofs.Words.{arith, inl, inr, subst}

-- ---- what was read of the words

module _ (words : List (List ℕ)) (said : Result CommandLine LineFault) (read : IsRead words said) where
  -- they say the command
  pub words_say : (found command : CommandLine) → said ≡ Ok found → found ≡ command → Says words command
  words_say found command is same = subst (Says words) same (subst (IsRead words) is read)

  -- they get the fault
  pub words_ask : (found fault : LineFault) → said ≡ Err found → found ≡ fault → Answers words fault
  words_ask found fault is same = subst (Answers words) same (subst (IsRead words) is read).1

  -- they are not understood
  pub words_say_none : (found : LineFault) (text : _) → said ≡ Err found → found ≡ LineFault.Usage text → IsNotUnderstood words
  words_say_none found text is same =
      let it = subst (λ (f : LineFault). IsRead words (Err f)) same (subst (IsRead words) is read) in
      (elim it.0 [ inl memory ↦ absurd (cc) | inr none ↦ none ], it.1)

module _ (run : Run) (result : ℕ) where
  -- memory was refused for the words, which was said, and nothing else was done
  pub acts_refused : (words : List (List ℕ)) → run.ReaderKept → run.WriterKept → run.Sound → (result ≡ 1) × IsSaid (line_of Memory) run.said.before run.said.after run.errors_failed → Acts words run result
  acts_refused words reader writer sound it = record {
    status = omega (arith, it.0);
    done = λ e f. absurd (e it.0);
    fault = λ e. inl (reader, writer);
    named = λ e. inl (record { fault = Memory; came = sound; line = it.1 });
    not_understood = λ e. absurd (omega (arith, it.0, e));
  }

  -- the same words
  pub acts_as : (words other : List (List ℕ)) → words ≡ other → Acts words run result → Acts other run result
  acts_as words other same it = subst (λ (ws : List (List ℕ)). Acts ws run result) same it
