-- What is kept of forks: the tasks of each scope since the base, and how a call changes that.
use Rattle.std.specs.Prelude.{[], ℕ, ◌++◌, ◌-◌, ◌∷◌, ◌≤◌, List, slice_index_or}
use Rattle.scope_rows.specs.Steps.{altered}
use Rattle.scope_index.specs.Words.{IsNumbered, place_of}

-- the tasks of a scope
pub record ForkedTasks : Type 0 where
  -- their numbers, in fork order
  pub numbers : List ℕ
  -- how many more it takes without memory
  pub room : ℕ

-- the lists of the scopes, in order of their numbers, of which `before` were given before
pub record ForkTable : Type 0 where
  pub before : ℕ
  pub lists : List ForkedTasks
  -- how many more scopes it takes without memory
  pub spare : ℕ

-- the scope has a list
abbrev pub HasForks : ForkTable → ℕ → Type 0
HasForks t s = IsNumbered t.before t.lists s

-- no tasks
abbrev pub no_forks : ForkedTasks
no_forks = record { numbers = []; room = 0 }

-- what is kept of the scope's tasks
abbrev pub forks_in : ForkTable → ℕ → ForkedTasks
forks_in t s = slice_index_or t.lists (place_of t.before s) no_forks

-- the numbers of the scope's tasks
abbrev pub tasks_in : ForkTable → ℕ → List ℕ
tasks_in t s = (forks_in t s).numbers

-- there is room for one task more of the scope
abbrev pub HasForkRoom : ForkTable → ℕ → Type 0
HasForkRoom t s = 1 ≤ (forks_in t s).room

-- the table of no scope
abbrev pub no_lists : ℕ → ForkTable
no_lists before = record { before = before; lists = []; spare = 0 }

-- the table with one scope more, which has no tasks
abbrev pub with_open : ForkTable → ForkTable
with_open t = record t { lists = t.lists ++ no_forks ∷ []; spare = t.spare - 1 }

-- the table with what is kept of the scope's tasks changed
abbrev pub with_forks : ForkTable → ℕ → (ForkedTasks → ForkedTasks) → ForkTable
with_forks t s f = record t { lists = altered f t.lists (place_of t.before s) }

-- the same tasks, with room for so many more
abbrev pub roomy : ℕ → ForkedTasks → ForkedTasks
roomy room x = record x { room = room }

-- one task more, for which there was room
abbrev pub with_task : ℕ → ForkedTasks → ForkedTasks
with_task k x = record { numbers = x.numbers ++ k ∷ []; room = x.room - 1 }
