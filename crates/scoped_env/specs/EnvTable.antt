-- The environments of a realm's actors, and how a call changes them.
use Rattle.std.specs.Prelude.{[], ℕ, ◌++◌, ◌+◌, ◌-◌, ◌<◌, ◌==◌, ◌∷◌, ◌≤◌, List, if◌then◌else◌, length, slice_index_or, slice_set}
use Rattle.scoped_env.specs.Words.{Origin}
use Rattle.scoped_env.specs.Layers.{Layers, inheriting, no_pairs}

-- main's pairs, and those of the tasks that are numbered from `before` on, in order of their numbers
pub record EnvTable : Type 0 where
  pub before : ℕ
  pub main : Layers
  pub tasks : List Layers

-- the actor is main, or a task that is in the table
pub record HasEnv (t : EnvTable) (a : ℕ) : Type 0 where
  pub since : 0 < a → t.before < a
  pub within : a ≤ t.before + length t.tasks

-- the place of a task in the list
abbrev pub place_in : EnvTable → ℕ → ℕ
place_in t a = a - t.before - 1

-- the pairs of the actor
abbrev pub layers_in : EnvTable → ℕ → Layers
layers_in t a = if a == 0 then t.main else slice_index_or t.tasks (place_in t a) no_pairs

-- the table in which the actor has these pairs
abbrev pub with_layers : EnvTable → ℕ → Layers → EnvTable
with_layers t a e = if a == 0 then record { before = t.before; main = e; tasks = t.tasks } else record { before = t.before; main = t.main; tasks = slice_set t.tasks (place_in t a) e }

-- the table with one task more, which inherits all pairs of the actor
abbrev pub with_fork : EnvTable → ℕ → EnvTable
with_fork t a = record { before = t.before; main = t.main; tasks = t.tasks ++ inheriting (layers_in t a) ∷ [] }

-- what a realm begins with: main has the pairs of the base
abbrev pub beginning : Origin → EnvTable
beginning b = record { before = b.tasks; main = record { inherited = []; stack = b.binds }; tasks = [] }

-- the table of main alone, after so many tasks
abbrev pub restarted : EnvTable → ℕ → EnvTable
restarted t n = record { before = n; main = t.main; tasks = [] }
