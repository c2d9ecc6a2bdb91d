-- The pairs that an actor sees: those that it inherited at its fork, and its own stack.
use Rattle.std.specs.Prelude.{[], ◌++◌, ◌∷◌, List}
use Rattle.scoped_env.specs.Words.{Binding, without_last}

-- each list has the oldest pair first
pub record Layers : Type 0 where
  pub inherited : List Binding
  pub stack : List Binding

-- nothing is bound
abbrev pub no_pairs : Layers
no_pairs = record { inherited = []; stack = [] }

-- all pairs, the oldest first
abbrev pub all_pairs : Layers → List Binding
all_pairs e = e.inherited ++ e.stack

-- the pairs, and one of its own above them
abbrev pub with_pair : Layers → Binding → Layers
with_pair e pair = record { inherited = e.inherited; stack = e.stack ++ pair ∷ [] }

-- the pairs without the last of its own
abbrev pub without_last_pair : Layers → Layers
without_last_pair e = record { inherited = e.inherited; stack = without_last e.stack }

-- what an actor with these pairs leaves to a task that it forks: all of them as inherited pairs,
-- and an empty stack
abbrev pub inheriting : Layers → Layers
inheriting e = record { inherited = all_pairs e; stack = [] }
