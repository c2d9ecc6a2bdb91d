-- That the line which is known of an event is the one whose command recorded it.
use Rattle.std.specs.Prelude.{◌++◌, ◌+◌, ◌<◌, ◌∷◌, ◌≡◌}
use Rattle.script_jobs.specs.Words.{[], ℕ, Do, Event, Limits, List, Some, length, line_said, slice_get}
use Rattle.script_words.specs.declared.commands.Line.TheVariants.{Command}
use Rattle.script_jobs.specs.Noting.{Noting, noting_after, noting_begins}

-- a script under way after more lines
unfoldable pub noting_after_lines : Noting → List (List ℕ) → Noting
noting_after_lines s [] = s
noting_after_lines s (line ∷ lines) = noting_after_lines (noting_after s (line_said line)) lines

-- a script after these lines, on a fresh realm of these limits
abbrev pub noting_of_lines : Limits → List (List ℕ) → Noting
noting_of_lines L lines = noting_after_lines (noting_begins L) lines

-- the line with this number, counted from 1, says the command of the event, and before that line so many events were
-- recorded since the base
pub record RecordedAt (L : Limits) (lines : List (List ℕ)) (number place : ℕ) (e : Event) : Type 0 where
  pub front : List (List ℕ)
  pub line : List ℕ
  pub back : List (List ℕ)
  pub whole : lines ≡ front ++ line ∷ back
  pub numbered : number ≡ length front + 1
  pub says : line_said line ≡ Command (Do e)
  pub placed : length (noting_of_lines L front).realm.history.events ≡ place

-- of each event since the base a line is known, and it is the one whose command recorded the event
abbrev pub LinesRecord : Type 0
LinesRecord = (L : Limits) (lines : List (List ℕ)) → length lines < 18446744073709551614 → (i : ℕ) (e : Event)
    → slice_get (noting_of_lines L lines).realm.history.events i ≡ Some e
    → (n : ℕ) × (slice_get (noting_of_lines L lines).lines i ≡ Some n) × RecordedAt L lines n i e
