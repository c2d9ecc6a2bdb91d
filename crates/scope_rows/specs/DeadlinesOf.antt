-- When what is kept of own deadlines is a history's.
use Rattle.std.specs.Prelude.{ℕ, ◌+◌, ◌≡◌, Bool, Option, Some, false, length, slice_get, true}
use Rattle.scope_rows.specs.Words.{Event, History, Move, Open, deadline, opened_count}
use Rattle.scope_rows.specs.DeadlineTable.{DeadlineTable}

-- the table has the own deadline of each scope that was opened since the base
pub record AreDeadlinesOf (h : History) (t : DeadlineTable) : Type 0 where
  pub numbered : t.before ≡ h.base.scopes
  pub count : length t.deadlines ≡ opened_count h
  pub deadlines : (i : ℕ) (d : Option ℕ) → slice_get t.deadlines i ≡ Some d → d ≡ deadline h (t.before + 1 + i)

-- the event opens a scope, or moves a deadline
abbrev pub moves_deadlines : Event → Bool
moves_deadlines (Open actor policy options) = true
moves_deadlines (Move scope deadline) = true
moves_deadlines _ = false
