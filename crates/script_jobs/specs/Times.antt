-- Readings of a clock in a script: lines `# at MILLIS`, which say nothing to the realm.
use Rattle.std.specs.Prelude.{◌&&◌, ◌++◌, ◌∷◌, if◌then◌else◌}
use Rattle.script_jobs.specs.Words.{[], ℕ, Bool, Limits, List, None, Option, Realm, Some, Times, bytes_eq, codes, ended_lines, fields, is_some, just_three, length}
use Rattle.script_jobs.specs.Words.{line_said, list_any, moment_said, nat_le, nat_lt, option_and_then, realm_after_line, starting, the_start, unwrap_or}

abbrev pub small : ℕ → Option ℕ
small n = if nat_le n 4294967295 then Some n else None

abbrev pub reading_by : List ℕ × List ℕ × List ℕ → Option ℕ
reading_by f = if bytes_eq f.0 (codes "#") && bytes_eq f.1 (codes "at") then option_and_then small (moment_said f.2) else None

-- the reading of a line `# at MILLIS`
unfoldable pub reading_of : List ℕ → Option ℕ
reading_of line = option_and_then reading_by (just_three (fields line))

-- one of the script's lines has a reading
abbrev pub has_reading : List (List ℕ) → Bool
has_reading lines = list_any (λ line. is_some (reading_of line)) lines

-- the times of the events behind a line that had so many before it and so many behind it: one more, or none behind a
-- retirement
abbrev pub stamped : List ℕ → ℕ → ℕ → ℕ → List ℕ
stamped times before after at = if nat_lt before after then times ++ at ∷ [] else (if nat_lt after before then [] else times)

-- the reading that counts behind a line
abbrev pub at_line : ℕ → List ℕ → ℕ
at_line at line = unwrap_or (reading_of line) at

-- by event the last reading before its line, and behind them the last one of all; and that by itself
pub record Stamps : Type 0 where
  pub events : List ℕ
  pub last : ℕ

abbrev pub stamps_of : Times → Stamps
stamps_of t = record { events = t.events.items; last = t.last }

unfoldable pub stamps_from : List ℕ → Realm → ℕ → List (List ℕ) → Stamps
stamps_from times realm at [] = record { events = times ++ at ∷ []; last = at }
stamps_from times realm at (line ∷ lines) =
    stamps_from (stamped times (length realm.history.events) (length (realm_after_line realm (line_said line)).history.events) (at_line at line)) (realm_after_line realm (line_said line)) (at_line at line) lines

-- a script without a reading has no times
abbrev pub no_stamps : Stamps
no_stamps = record { events = []; last = 0 }

-- the times of a script that is run on a fresh realm of these limits
unfoldable pub stamps_of_script : Limits → List ℕ → Stamps
stamps_of_script L bytes = if has_reading (ended_lines [] bytes) then stamps_from [] (starting L the_start) 0 (ended_lines [] bytes) else no_stamps
