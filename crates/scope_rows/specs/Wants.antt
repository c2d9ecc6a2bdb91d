-- What the calls want of the rows. Rows that agree with a history give it for each accepted event.
use Rattle.std.specs.Prelude.{ℕ, ◌+◌, ◌<◌, ◌^◌, ◌≡◌, ◌≤◌, IfSome, List, Some, length, slice_get}
use Rattle.scope_rows.specs.Words.{Counts, ScopeRow, option_map_or}
use Rattle.scope_rows.specs.{Steps.no_counts, Table.HasActor, Table.HasScope, Table.HasTask, Table.RowTable, Table.innermost_of, Table.scope_of, Table.scope_row}

-- the numbers of the scopes fit 32 bits
abbrev pub HasScopeNumbers : RowTable → Type 0
HasScopeNumbers t = t.scopes_before + length t.scopes < 2 ^ 32

-- the numbers of the tasks fit 32 bits
abbrev pub HasTaskNumbers : RowTable → Type 0
HasTaskNumbers t = t.tasks_before + length t.tasks < 2 ^ 32

-- how many tasks of the scope its row counts at each stage
abbrev pub counts_of : RowTable → ℕ → Counts
counts_of t s = option_map_or (λ r. r.counts) (scope_row t s) no_counts

-- one task more can be counted at each stage
pub record HasCountRoom (c : Counts) : Type 0 where
  pub never : c.never + 1 < 2 ^ 32
  pub waiting : c.waiting + 1 < 2 ^ 32
  pub running : c.running + 1 < 2 ^ 32
  pub finished : c.finished + 1 < 2 ^ 32

-- the actor can open a scope
pub record CanOpen (t : RowTable) (a : ℕ) : Type 0 where
  pub actor : HasActor t a
  pub number : t.scopes_before + length t.scopes + 1 < 2 ^ 32

-- a task can be forked in the scope
pub record CanFork (t : RowTable) (s : ℕ) : Type 0 where
  pub scope : HasScope t s
  pub room : HasCountRoom (counts_of t s)

-- the task can be rejected, and can start
pub record CanBeTaken (t : RowTable) (k : ℕ) : Type 0 where
  pub task : HasTask t k
  pub scope : HasScope t (scope_of t k)
  pub waits : 1 ≤ (counts_of t (scope_of t k)).waiting
  pub room : HasCountRoom (counts_of t (scope_of t k))

-- the task can end
pub record CanFinish (t : RowTable) (k : ℕ) : Type 0 where
  pub task : HasTask t k
  pub scope : HasScope t (scope_of t k)
  pub runs : 1 ≤ (counts_of t (scope_of t k)).running
  pub room : HasCountRoom (counts_of t (scope_of t k))

-- each scope is below those after it alone
abbrev pub AreLinked : ℕ → List ScopeRow → Type 0
AreLinked before rows = (i : ℕ) (r : ScopeRow) (b : ℕ) → slice_get rows i ≡ Some r → r.below ≡ Some b → (before < b) × (b ≤ before + i)

-- the actor can begin the close of the scope
pub record CanBeginClose (t : RowTable) (a s : ℕ) : Type 0 where
  pub actor : HasActor t a
  pub scope : HasScope t s
  pub linked : AreLinked t.scopes_before t.scopes
  pub inner : IfSome (innermost_of t a) (HasScope t)

-- the actor can end the close of the scope
pub record CanEndClose (t : RowTable) (a s : ℕ) : Type 0 where
  pub actor : HasActor t a
  pub scope : HasScope t s
