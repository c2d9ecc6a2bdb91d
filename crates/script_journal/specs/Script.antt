-- The script of a history: the commands that a fresh realm is told to come to it. Scopes and tasks are counted from the
-- history's base on, as a fresh realm counts them; main stays 0.
use Rattle.std.specs.Prelude.{[], ℕ, ◌++◌, ◌-◌, ◌∷◌, List, codes, suc, zero}
use Rattle.script_journal.specs.Words.{Binding, Do, Event, History, Origin, decimal, flat_map, spelled, text_of, value_text}
use Rattle.scope_rules.specs.declared.types.events.Event.TheVariants as event

-- scope s and task k, as they are counted from the base on; an actor is counted as a task, so that main is 0
abbrev pub scope_since : Origin → ℕ → ℕ
scope_since base s = s - base.scopes

abbrev pub task_since : Origin → ℕ → ℕ
task_since base k = k - base.tasks

-- the event with other numbers of its scope, and of its task or actor
abbrev pub numbered : (ℕ → ℕ) → (ℕ → ℕ) → Event → Event
numbered s k (event.Open actor policy options) = event.Open (k actor) policy options
numbered s k (event.Fork actor scope label) = event.Fork (k actor) (s scope) label
numbered s k (event.Reject task) = event.Reject (k task)
numbered s k (event.Start task) = event.Start (k task)
numbered s k (event.Finish task end) = event.Finish (k task) end
numbered s k (event.Cancel scope) = event.Cancel (s scope)
numbered s k (event.Move scope deadline) = event.Move (s scope) deadline
numbered s k (event.Tick now) = event.Tick now
numbered s k (event.Bind actor pair) = event.Bind (k actor) pair
numbered s k (event.Unbind actor) = event.Unbind (k actor)
numbered s k (event.Join actor scope) = event.Join (k actor) (s scope)
numbered s k (event.BeginClose actor scope) = event.BeginClose (k actor) (s scope)
numbered s k (event.EndClose actor scope) = event.EndClose (k actor) (s scope)

-- the event with its scope, and its task or actor, as they are counted from the base on
abbrev pub renumbered : Origin → Event → Event
renumbered base e = numbered (scope_since base) (task_since base) e

-- `K VALUE`
abbrev pub pair_text : Binding → List ℕ
pair_text pair = text_of pair.key ++ codes " " ++ value_text pair.value

-- the command of an event
unfoldable pub event_line : Origin → Event → List ℕ
event_line base e = spelled (Do (renumbered base e))

-- a retirement, ended by a line feed: it gives back the load of the lines before it
abbrev pub retire_text : List ℕ
retire_text = codes "retire 0" ++ 10 ∷ []

-- what the history begins with: the moment, if it is not 0, and main's bindings, if there are any, each followed by a
-- retirement; so they take no more load than the base did
abbrev pub moment_text : ℕ → List ℕ
moment_text zero = []
moment_text (suc n) = codes "tick " ++ decimal (suc n) ++ 10 ∷ retire_text

unfoldable pub pairs_text : List Binding → List ℕ
pairs_text pairs = flat_map (λ pair. codes "bind 0 " ++ pair_text pair ++ 10 ∷ []) pairs

abbrev pub retire_behind : List Binding → List ℕ
retire_behind [] = []
retire_behind (pair ∷ pairs) = retire_text

unfoldable pub binds_text : List Binding → List ℕ
binds_text pairs = pairs_text pairs ++ retire_behind pairs

-- the commands of the events, each ended by a line feed
unfoldable pub events_text : Origin → List Event → List ℕ
events_text base events = flat_map (λ e. event_line base e ++ 10 ∷ []) events

-- the script of the history
abbrev pub script_text : History → List ℕ
script_text h = moment_text h.base.moment ++ binds_text h.base.binds ++ events_text h.base h.events
