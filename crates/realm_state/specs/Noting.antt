-- When the places of the scopes' events can be told an event, and what they are then.
use Rattle.std.specs.Prelude.{ℕ, ◌≡◌, ◌≤◌, Option, Some, false, length, true}
use Rattle.realm_state.specs.Words.{AreTrailsOf, Event, HasEventRoom, HasLoadRoom, HasTrail, History, Legal, Limits, TrailTable, followed, is_open, scope_of_event}

-- there is room for what so much load pays for, and for the scope that the event opens, if it does
abbrev pub HasRoomFor : TrailTable → Event → ℕ → Type 0
HasRoomFor t e load = (load ≤ t.room) × (is_open e ≡ true → 1 ≤ t.spare)

-- the place is the next, there is room for the event, and its scope is there
pub record CanBeNoted (t : TrailTable) (e : Event) (scope : Option ℕ) (place : ℕ) : Type 0 where
  pub next : place ≡ length t.links
  pub room : HasEventRoom t
  pub spare : is_open e ≡ true → 1 ≤ t.spare
  pub there : is_open e ≡ false → (s : ℕ) → scope ≡ Some s → HasTrail t s

-- whichever legal history the old places are of, if the event is of the scope and there is room for
-- the load with it: the new ones are of it with the event
abbrev pub HasNoted : TrailTable → Event → Option ℕ → TrailTable → Type 0
HasNoted old e scope new = (L : Limits) (h : History) → Legal L h → HasLoadRoom (followed h e) old.room → (is_open e ≡ false → scope ≡ scope_of_event h e) → AreTrailsOf h old → AreTrailsOf (followed h e) new
