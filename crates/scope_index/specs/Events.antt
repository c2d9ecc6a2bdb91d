-- When what is kept can be told an event, and what it is then.
use Rattle.std.specs.Prelude.{ℕ, ◌≡◌, length}
use Rattle.scope_index.specs.Words.{Accepts, Event, History, Legal, Limits, followed}
use Rattle.scope_index.specs.IndexTables.{IndexTable, IsIndexOf}

-- it is what is kept of a history in which the event is accepted
pub record IsReadyFor (t : IndexTable) (e : Event) : Type 0 where
  pub limits : Limits
  pub history : History
  pub legal : Legal limits history
  pub accepted : Accepts limits history e
  pub kept : IsIndexOf history t

-- and that history has so many events
abbrev pub IsReadyAt : IndexTable → Event → ℕ → Type 0
IsReadyAt t e place = (ready : IsReadyFor t e) × (place ≡ length ready.history.events)

-- whichever legal history the old one is kept of, and accepts the event: the new one is kept of it with
-- the event
abbrev pub HasApplied : IndexTable → Event → IndexTable → Type 0
HasApplied old e new = (L : Limits) (h : History) → Legal L h → Accepts L h e → IsIndexOf h old → IsIndexOf (followed h e) new

-- the same of histories of so many events
abbrev pub HasAppliedAt : IndexTable → Event → ℕ → IndexTable → Type 0
HasAppliedAt old e place new = (L : Limits) (h : History) → Legal L h → Accepts L h e → IsIndexOf h old → place ≡ length h.events → IsIndexOf (followed h e) new
