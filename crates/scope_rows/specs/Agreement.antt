-- When rows agree with a history: each says what the history says of its scope or task.
use Rattle.std.specs.Prelude.{ℕ, ◌+◌, ◌≡◌, Some, length, slice_get}
use Rattle.scope_rows.specs.Words.{Forking, History, ScopeRow, TaskRow, before, closed, closing, counts, forked_count, forking, innermost, joining, opened_count, opening, parent, stack, stage, state, violated}
use Rattle.scope_rows.specs.Table.{RowTable, inner_of}

-- the row says what the history says of scope s
pub record IsScopeRow (h : History) (s : ℕ) (r : ScopeRow) : Type 0 where
  pub opening : opening h s ≡ Some r.opening
  pub parent : parent h s ≡ r.parent
  -- what the owner had innermost at the opening, and how many own pairs
  pub below : innermost (before h r.opening.place) r.opening.actor ≡ r.below
  pub height : length (stack (before h r.opening.place) r.opening.actor) ≡ r.height
  pub joined : joining h s ≡ r.joined
  pub closing : closing h s ≡ r.closing
  pub closed : closed h s ≡ r.closed
  pub violated : violated h s ≡ r.violated
  pub counts : counts h s ≡ r.counts

-- the row says what the history says of task k, and where its fork is, which says the rest
pub record IsTaskRow (h : History) (k : ℕ) (r : TaskRow) : Type 0 where
  pub forked : Forking
  pub is : forking h k ≡ Some forked
  pub scope : forked.scope ≡ r.scope
  pub place : forked.place ≡ r.place
  pub stage : stage h k ≡ r.stage
  pub state : state h k ≡ r.state
  pub innermost : innermost h k ≡ inner_of r.innermost

-- the rows are those of the history
pub record AreRowsOf (h : History) (t : RowTable) : Type 0 where
  pub scopes_before : t.scopes_before ≡ h.base.scopes
  pub tasks_before : t.tasks_before ≡ h.base.tasks
  pub main : innermost h 0 ≡ t.main_innermost
  pub scope_count : length t.scopes ≡ opened_count h
  pub task_count : length t.tasks ≡ forked_count h
  pub scopes : (i : ℕ) (r : ScopeRow) → slice_get t.scopes i ≡ Some r → IsScopeRow h (t.scopes_before + 1 + i) r
  pub tasks : (i : ℕ) (r : TaskRow) → slice_get t.tasks i ≡ Some r → IsTaskRow h (t.tasks_before + 1 + i) r
