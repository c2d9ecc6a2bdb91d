-- What a realm takes: the load of its events, and whether one more would pass a limit.
use Rattle.std.specs.Prelude.{ℕ, ◌+◌, ◌||◌, Bool, length, nat_le, nat_lt}
use Rattle.scope_rules.specs.Words.{Bind, Cancel, Event, FORK_LOAD, Fork, GREATEST_NUMBER, Limits, Move, OPEN_LOAD, STEP_LOAD, Tick, Unbind, sum_by}
use Rattle.scope_rules.specs.{History.History, History.forked_count, History.opened_count, History.scopes, History.tasks, declared.types.events.Event.TheVariants.Open}

-- what an accepted command costs
abbrev pub weight : Event → ℕ
weight (Open actor policy options) = OPEN_LOAD
weight (Fork actor scope label) = FORK_LOAD
weight (Cancel scope) = STEP_LOAD
weight (Move scope deadline) = STEP_LOAD
weight (Tick now) = STEP_LOAD
weight (Bind actor pair) = STEP_LOAD
weight (Unbind actor) = STEP_LOAD
weight _ = 0

-- the load so far: a unit for each pair of the base, and what the events cost
unfoldable pub load : History → ℕ
load h = length h.base.binds + sum_by weight h.events

-- so much load more would pass the limit
abbrev pub over_load : Limits → History → ℕ → Bool
over_load L h units = nat_lt L.load (load h + units)

-- one more scope would pass the limit of scopes, or has no number
abbrev pub over_scopes : Limits → History → Bool
over_scopes L h = nat_le L.scopes (opened_count h) || nat_le GREATEST_NUMBER (scopes h)

-- one more task would pass the limit of tasks, or has no number
abbrev pub over_tasks : Limits → History → Bool
over_tasks L h = nat_le L.tasks (forked_count h) || nat_le GREATEST_NUMBER (tasks h)
