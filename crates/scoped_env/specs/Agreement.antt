-- Which environments agree with a history.
use Rattle.std.specs.Prelude.{[], ℕ, ◌+◌, ◌≡◌, Bool, List, Option, Some, false, length, slice_get, true}
use Rattle.scoped_env.specs.Words.{Bind, Binding, Event, Fork, Forking, History, Unbind, before, bindings, forked_count, forking, option_map_or, stack}
use Rattle.scoped_env.specs.{EnvTable.EnvTable, Layers.Layers}

-- what the task inherited: all that its forker saw at the fork
abbrev pub inherited_as : History → Option Forking → List Binding
inherited_as h o = option_map_or (λ f. bindings (before h f.place) f.actor) o []

-- what the actor inherited, main nothing
abbrev pub inherited_by : History → ℕ → List Binding
inherited_by h a = inherited_as h (forking h a)

-- the pairs of the actor: what it inherited, and its own
abbrev pub layers_of : History → ℕ → Layers
layers_of h a = record { inherited = inherited_by h a; stack = stack h a }

-- the table holds the pairs of main and of each task that was forked since the base
pub record AreEnvsOf (h : History) (t : EnvTable) : Type 0 where
  pub numbered : t.before ≡ h.base.tasks
  pub main : t.main ≡ layers_of h 0
  pub count : length t.tasks ≡ forked_count h
  pub tasks : (i : ℕ) (e : Layers) → slice_get t.tasks i ≡ Some e → e ≡ layers_of h (t.before + 1 + i)

-- the event changes what an actor sees, or adds an actor
abbrev pub moves_envs : Event → Bool
moves_envs (Fork actor scope label) = true
moves_envs (Bind actor pair) = true
moves_envs (Unbind actor) = true
moves_envs _ = false
