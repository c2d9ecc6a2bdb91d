-- A script under way whose lines get notes.
use Rattle.std.specs.Prelude.{◌++◌, ◌==◌, ◌∷◌, if◌then◌else◌}
use Rattle.script_jobs.specs.Words.{[], ℕ, History, Limits, Line, List, Realm, length, nat_lt, one_more, realm_after_line, starting, the_start}

-- the realm, of each event since its base the number of the line whose command recorded it, and the number of the next
-- line
pub record Noting : Type 0 where
  pub realm : Realm
  pub lines : List ℕ
  pub number : ℕ

-- the lines of the events once the line with this number was answered: one more if it recorded an event, and none
-- if it discarded all
abbrev pub lines_after : List ℕ → ℕ → (old new : History) → List ℕ
lines_after lines n old new =
    if length new.events == length old.events then lines
    else if nat_lt (length old.events) (length new.events) then lines ++ n ∷ []
    else []

-- the next line said this, and was answered
abbrev pub noting_after : Noting → Line → Noting
noting_after s line = record {
  realm = realm_after_line s.realm line;
  lines = lines_after s.lines s.number s.realm.history (realm_after_line s.realm line).history;
  number = one_more s.number;
}

-- a script begins on a fresh realm of these limits; lines are numbered from 1
abbrev pub noting_begins : Limits → Noting
noting_begins L = record { realm = starting L the_start; lines = []; number = 1 }
