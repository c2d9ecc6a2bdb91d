-- When what is kept of the places of events is a history's.
use Rattle.std.specs.Prelude.{ℕ, ◌+◌, ◌<◌, ◌≡◌, ◌≤◌, List, Some, length, slice_get}
use Rattle.scope_journal.specs.Words.{History, load, opened_count}
use Rattle.scope_journal.specs.{Places.places_of, TrailTable.TrailTable, TrailTable.trail_to}

-- a realm's history of so much load has no more events than there is room for. A unit for each pair of
-- the base is no event's.
abbrev pub HasLoadRoom : History → ℕ → Type 0
HasLoadRoom h room = load h ≤ length h.base.binds + room

-- the trail up to the place is that of the scope's events
pub record IsTrailOf (h : History) (s : ℕ) (links : List ℕ) (last : ℕ) : Type 0 where
  pub within : last < length links
  pub places : trail_to links last ≡ places_of h s

-- the table has the places of the events of each scope that was opened since the base, and room for what
-- they cost
pub record AreTrailsOf (h : History) (t : TrailTable) : Type 0 where
  pub numbered : t.before ≡ h.base.scopes
  pub linked : length t.links ≡ length h.events
  pub count : length t.lasts ≡ opened_count h
  pub trails : (i last : ℕ) → slice_get t.lasts i ≡ Some last → IsTrailOf h (t.before + 1 + i) t.links last
  pub loaded : HasLoadRoom h t.room
