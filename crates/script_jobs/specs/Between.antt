-- Which events of a run are drawn, by their times.
use Rattle.std.specs.Prelude.{◌+◌, ◌-◌, ◌∷◌, if◌then◌else◌}
use Rattle.script_jobs.specs.Words.{[], ℕ, Between, List, None, Option, Some, max, min, nat_le}
use Rattle.run_picture.specs.declared.view.View.{View as Seen}

-- how many of the times, from the first on, come before the moment
unfoldable pub count_before : ℕ → List ℕ → ℕ
count_before moment [] = 0
count_before moment (t ∷ times) = if nat_le moment t then 0 else 1 + count_before moment times

-- the first event in view: the first at that moment or later
abbrev pub from_by : (since : Option ℕ) → (times : List ℕ) → ℕ → ℕ
from_by None times from = from
from_by (Some moment) times from = max from (min (count_before moment times) 4294967295)

-- the last event in view: the last by that moment; without times all are in view
abbrev pub to_by : (until : Option ℕ) → (times : List ℕ) → ℕ → ℕ
to_by None times to = to
to_by (Some moment) [] to = to
to_by (Some moment) (t ∷ times) to = min to (min (count_before (moment + 1) (t ∷ times)) 4294967295 - 1)

-- what is drawn of what is in view
abbrev pub seen_between : Between → List ℕ → Seen → Seen
seen_between b times seen = record {
  width = seen.width;
  rows = seen.rows;
  from = from_by b.since times seen.from;
  to = to_by b.until times seen.to;
  scope = seen.scope;
}
