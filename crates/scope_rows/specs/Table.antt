-- What rows hold: a row for each scope and each task since the base, in order of their numbers, which go
-- on from the base's.
use Rattle.std.specs.Prelude.{[], ℕ, ◌+◌, ◌-◌, ◌<◌, ◌==◌, ◌≡◌, ◌≤◌, ◌⊎◌, List, None, Option, Some, if◌then◌else◌, length, nat_lt, slice_get}
use Rattle.scope_rows.specs.Words.{ScopeRow, TaskRow, option_and_then, option_map_or}

pub record RowTable : Type 0 where
  -- how many scopes and tasks were numbered before
  pub scopes_before : ℕ
  pub tasks_before : ℕ
  -- the innermost unclosed scope of main
  pub main_innermost : Option ℕ
  pub scopes : List ScopeRow
  pub tasks : List TaskRow
  -- how many more rows they take without memory
  pub scope_room : ℕ
  pub task_room : ℕ

-- the place of the row of number n, if `before` numbers were given before
abbrev pub place_of : ℕ → ℕ → ℕ
place_of before n = (n - before) - 1

-- there is a row of number n
abbrev pub IsNumbered : {R : Type 0} → ℕ → List R → ℕ → Type 0
IsNumbered before rows n = (before < n) × (n ≤ before + length rows)

-- there is a row of the scope
abbrev pub HasScope : RowTable → ℕ → Type 0
HasScope t s = IsNumbered t.scopes_before t.scopes s

-- there is a row of the task
abbrev pub HasTask : RowTable → ℕ → Type 0
HasTask t k = IsNumbered t.tasks_before t.tasks k

-- the actor is main, or there is a row of the task
abbrev pub HasActor : RowTable → ℕ → Type 0
HasActor t a = (a ≡ 0) ⊎ HasTask t a

-- the row of number n
abbrev pub row_of : {R : Type 0} → ℕ → List R → ℕ → Option R
row_of before rows n = if nat_lt before n then slice_get rows (place_of before n) else None

abbrev pub scope_row : RowTable → ℕ → Option ScopeRow
scope_row t s = row_of t.scopes_before t.scopes s

abbrev pub task_row : RowTable → ℕ → Option TaskRow
task_row t k = row_of t.tasks_before t.tasks k

-- the scope in which the task was forked, or 0 if there is no row of the task
abbrev pub scope_of : RowTable → ℕ → ℕ
scope_of t k = option_map_or (λ r. r.scope) (task_row t k) 0

-- the scope of this number, which is 0 if there is none
abbrev pub inner_of : ℕ → Option ℕ
inner_of n = if n == 0 then None else Some n

-- the actor's innermost unclosed scope
abbrev pub innermost_of : RowTable → ℕ → Option ℕ
innermost_of t a = if a == 0 then t.main_innermost else option_and_then (λ r. inner_of r.innermost) (task_row t a)

-- the rows of no scope and no task
abbrev pub empty_table : ℕ → ℕ → RowTable
empty_table scopes_before tasks_before = record { scopes_before = scopes_before; tasks_before = tasks_before; main_innermost = None; scopes = []; tasks = []; scope_room = 0; task_room = 0 }
