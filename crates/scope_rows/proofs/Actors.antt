-- Rows that agree have a row of each task that acts.
use Rattle.scope_rows.specs.{AreRowsOf, HasActor, History, RowTable}
use Rattle.scope_rows.proofs.Words.{ℕ, IsActor, inl, inr}
use Rattle.scope_rows.proofs.{Places.forked_has, Unforked.actor_split}

-- an actor that acts is main, or there is a row of it
pub actor_has : (h : History) (t : RowTable) (a : ℕ) → AreRowsOf h t → IsActor h a → HasActor t a
actor_has h t a are acts = elim (actor_split h a acts) [ inl main ↦ inl main | inr forked ↦ inr (forked_has h t a are forked) ]
