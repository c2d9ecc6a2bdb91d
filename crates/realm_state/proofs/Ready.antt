-- A realm's own history is one that its next event can be told of.
use Rattle.std.proofs.Common.{ℕ, ◌≡◌, length}
use Rattle.realm_state.specs.{Accepts, Event, History, IndexTable, IsIndexOf, IsReadyAt, Legal, Limits}

-- what is kept of a legal history can be told an event that it accepts
pub ready_at : (L : Limits) (h : History) (t : IndexTable) (e : Event) (place : ℕ) → Legal L h → Accepts L h e → IsIndexOf h t → place ≡ length h.events → IsReadyAt t e place
ready_at L h t e place legal ok kept at = (record { limits = L; history = h; legal = legal; accepted = ok; kept = kept }, at)
