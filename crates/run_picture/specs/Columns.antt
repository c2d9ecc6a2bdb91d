-- What the page of a run reads: a row for each task and for each scope, in the words of the rules.
use Rattle.std.specs.Prelude.{◌+◌, ◌≡◌}
use Rattle.run_picture.specs.Words.{ℕ, Cause, Columns, HasFirsts, History, Landmark, Legal, Limits, List, Opening, Places, ScopeRow, Some, TaskRow, around, cancellation, false, first_place, forked_count, forking, length}
use Rattle.run_picture.specs.Words.{opened_count, opening, parent, slice_get, stage, state}
use Rattle.run_picture.specs.{Arounds.IsNestOf, Closings.AreClosings, Closings.closing_place}

-- the row is that of task k: as it was forked, where it first started and ended, its stage, and what can be read of it
pub record IsTaskRow (h : History) (k : ℕ) (row : TaskRow) : Type 0 where
  pub forked : forking h k ≡ Some row.forked
  pub started : row.started ≡ first_place Landmark.Started h.events k
  pub ended : row.ended ≡ first_place Landmark.Ended h.events k
  pub stage : row.stage ≡ stage h k
  pub state : row.state ≡ state h k

-- the cancel of scope p comes to a scope: that is p, or it has no shield, and the cancel comes to what lies around it
pub data ComesTo (h : History) (p : ℕ) : ℕ → Type 0 where
  there : ComesTo h p p
  inwards : {s q : ℕ} {o : Opening} → opening h s ≡ Some o → o.options.shield ≡ false → around h o ≡ Some q → ComesTo h p q → ComesTo h p s

-- the row is that of scope s: as it was opened, what lies around it, where it was first joined and closed, and where and
-- why it became cancelled, by a cancel that comes to it; and in a legal history where it began to close
pub record IsScopeRow (h : History) (s : ℕ) (row : ScopeRow) : Type 0 where
  pub opened : opening h s ≡ Some row.opened
  pub parent : row.parent ≡ parent h s
  pub joined : row.joined ≡ first_place Landmark.Joined h.events s
  pub closing : (L : Limits) → Legal L h → row.closing ≡ closing_place h s
  pub closed : row.closed ≡ first_place Landmark.Closed h.events s
  pub cancelled : row.cancelled ≡ cancellation h s
  pub comes : (i : ℕ) (c : Cause) → row.cancelled ≡ Some (i, c) → ComesTo h c.scope s

-- row i is that of the task with the number before + 1 + i, for n tasks
pub record AreTaskRows (rows : List TaskRow) (h : History) (n : ℕ) : Type 0 where
  pub long : length rows ≡ n
  pub each : (i : ℕ) (row : TaskRow) → slice_get rows i ≡ Some row → IsTaskRow h (h.base.tasks + 1 + i) row

-- row i is that of the scope with the number before + 1 + i, for n scopes
pub record AreScopeRows (rows : List ScopeRow) (h : History) (n : ℕ) : Type 0 where
  pub long : length rows ≡ n
  pub each : (i : ℕ) (row : ScopeRow) → slice_get rows i ≡ Some row → IsScopeRow h (h.base.scopes + 1 + i) row

-- the columns are those of all tasks and all scopes since the base
pub record AreColumnsOf (columns : Columns) (h : History) : Type 0 where
  pub tasks_before : columns.tasks_before ≡ h.base.tasks
  pub scopes_before : columns.scopes_before ≡ h.base.scopes
  pub tasks : AreTaskRows columns.tasks.items h (forked_count h)
  pub scopes : AreScopeRows columns.scopes.items h (opened_count h)

-- the places are those of the history
pub record ArePlacesOf (places : Places) (h : History) : Type 0 where
  pub starts : HasFirsts places.starts Landmark.Started h.events h.base.tasks (forked_count h)
  pub ends : HasFirsts places.ends Landmark.Ended h.events h.base.tasks (forked_count h)
  pub joins : HasFirsts places.joins Landmark.Joined h.events h.base.scopes (opened_count h)
  pub closings : AreClosings places.closings h (opened_count h)
  pub nest : IsNestOf places.nest h
