-- What goes out as the line of an outcome.
use Rattle.std.proofs.Common.{ℕ, ℤ, ◌≡◌, Err, List, Ok, Option, refl}
use Rattle.balkreyn_c.specs.{AnswersValue, Checked, History, Memory, Outcome, TellsLine, Writes, outcome, outcome_check, outcome_line, refused}

-- if there was a value, there might have been no memory
memory_instead : {A : Type 0} (check : Checked) (value : Option A) (x : A) → AnswersValue check value (Ok x) → AnswersValue check value (Err Memory)
memory_instead (Ok done) value x is = refl
memory_instead (Err r) value x is = absurd cc

pub line_told : (h : History) (s : ℕ) (o : Outcome) (answer : ℤ) (old new : List ℕ) → AnswersValue (outcome_check h s) (outcome h s) (Ok o) → Writes (outcome_line o) answer old new → TellsLine h s answer old new
line_told h s o answer old new tells wrote = record { reply = Ok o; tells = tells; number = wrote.number; text = wrote.written }

pub line_untold : (h : History) (s : ℕ) (o : Outcome) (answer : ℤ) (old new : List ℕ) → AnswersValue (outcome_check h s) (outcome h s) (Ok o) → answer ≡ refused Memory → new ≡ old → TellsLine h s answer old new
line_untold h s o answer old new tells number kept = record { reply = Err Memory; tells = memory_instead (outcome_check h s) (outcome h s) o tells; number = number; text = kept }
