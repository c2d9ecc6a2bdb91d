-- What a parse of the words comes to.
use Rattle.std.specs.Prelude.{◌∷◌, ◌≡◌, ◌⊎◌}
use Rattle.command_line.specs.{[], AnswersAlone, App, ErrorKind, Help, IsAmong, Kinds, LineFault, List, Memory, None, Option, Row, Some, TellsEntered, TellsKind, Text, Usage, Version}
use Rattle.command_line.specs.{entered_says, false, fault_of, is_empty, is_simple_and_free, line_said, option_map, scopectl, subcommand_of, true}
use Rattle.command_line.proofs.Words.{◌∙◌, ap, cond, eqb-suc-zero, inl, inr, length, refl, subst, sym}
use Rattle.command_line.proofs.Built.{is_simple_app}
use Rattle.command_line.specs.Faults.{Answers}

if_clear : {X : Type 0} (kinds : Kinds) (x : Option X) → kinds ≡ [] → cond (is_empty kinds) x None ≡ x
if_clear kinds x none = subst (λ (ks : Kinds). cond (is_empty ks) x None ≡ x) (sym none) refl

some_kind : (k : ErrorKind) (kinds : Kinds) → IsAmong k kinds → is_empty kinds ≡ false
some_kind k [] among = absurd among
some_kind k (other ∷ kinds) among = eqb-suc-zero (length kinds)

the_only : (k asked : ErrorKind) → IsAmong k (asked ∷ []) → k ≡ asked
the_only k asked (inl is) = is
the_only k asked (inr none) = absurd none

memory_is : (fault : LineFault) (k : ErrorKind) → TellsKind k fault → k ≡ ErrorKind.OutOfMemory → fault ≡ Memory
memory_is Help k told is = absurd (cc)
memory_is Version k told is = absurd (cc)
memory_is (Usage text) k told is = absurd (told.2 is)
memory_is Memory k told is = refl

module _ (words : List Text) (app : App) (is : app ≡ scopectl) where
  pub simple : is_simple_and_free app ≡ true
  simple = ap is_simple_and_free is ∙ is_simple_app

  -- ---- the parse went well

  module _ (none : fault_of app words ≡ []) where
    clear : fault_of scopectl words ≡ []
    clear = sym (ap (λ (a : App). fault_of a words) is) ∙ none

    not_alone : (asked : ErrorKind) → AnswersAlone asked words → ⊥
    not_alone asked alone = let bad : [] ≡ asked ∷ [] = sym clear ∙ alone in absurd (cc)

    module _ (rows : Option (Text × List Row)) (are : rows ≡ subcommand_of app words) where
      same : subcommand_of scopectl words ≡ rows
      same = sym (are ∙ ap (λ (a : App). subcommand_of a words) is)

      -- the words say what the command says that was entered
      pub says_entered : line_said words ≡ entered_says rows
      unfolding line_said
      says_entered = if_clear (fault_of scopectl words) (entered_says (subcommand_of scopectl words)) clear ∙ ap entered_says same

    pub answers_entered : (rows : Option (Text × List Row)) → rows ≡ subcommand_of app words → (fault : LineFault) → TellsEntered rows fault → Answers words fault
    answers_entered None are Help told = absurd told
    answers_entered None are Version told = absurd told
    answers_entered (Some entered) are Help told = inr (clear, ap (option_map (λ (e : Text × List Row). e.0)) (same (Some entered) are) ∙ ap (λ (word : Text). Some word) told)
    answers_entered (Some entered) are Version told = inr (clear, ap (option_map (λ (e : Text × List Row). e.0)) (same (Some entered) are) ∙ ap (λ (word : Text). Some word) told)
    answers_entered rows are (Usage text) told = (not_alone ErrorKind.DisplayHelp, not_alone ErrorKind.DisplayVersion)
    answers_entered rows are Memory told = tt

  -- ---- it failed

  module _ (fault : LineFault) (k : ErrorKind) (told : TellsKind k fault) where
    among : IsAmong k (fault_of app words) → IsAmong k (fault_of scopectl words)
    among = subst (λ (a : App). IsAmong k (fault_of a words)) is

    refused : IsAmong k (fault_of app words) → line_said words ≡ None
    unfolding line_said
    refused h = ap (λ b. cond b (entered_says (subcommand_of scopectl words)) None) (some_kind k (fault_of scopectl words) (among h))

    pub refused_of : (k ≡ ErrorKind.OutOfMemory) ⊎ IsAmong k (fault_of app words) → (fault ≡ Memory) ⊎ (line_said words ≡ None)
    refused_of (inl memory) = inl (memory_is fault k told memory)
    refused_of (inr h) = inr (refused h)

  pub answers_of : (fault : LineFault) (k : ErrorKind) → TellsKind k fault → (k ≡ ErrorKind.OutOfMemory) ⊎ IsAmong k (fault_of app words) → Answers words fault
  answers_of Help k told (inl memory) = absurd (cc)
  answers_of Help k told (inr h) = inl (subst (λ (asked : ErrorKind). IsAmong asked (fault_of scopectl words)) told (among Help k told h))
  answers_of Version k told (inl memory) = absurd (cc)
  answers_of Version k told (inr h) = inl (subst (λ (asked : ErrorKind). IsAmong asked (fault_of scopectl words)) told (among Version k told h))
  answers_of (Usage text) k told (inl memory) = absurd (told.2 memory)
  answers_of (Usage text) k told (inr h) = (
    λ (help : AnswersAlone ErrorKind.DisplayHelp words). told.0 (the_only k ErrorKind.DisplayHelp (subst (λ (ks : Kinds). IsAmong k ks) help (among (Usage text) k told h))),
    λ (version : AnswersAlone ErrorKind.DisplayVersion words). told.1 (the_only k ErrorKind.DisplayVersion (subst (λ (ks : Kinds). IsAmong k ks) version (among (Usage text) k told h))),
  )
  answers_of Memory k told h = tt
