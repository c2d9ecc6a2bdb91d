-- No task so far waits or runs.
use Rattle.std.specs.Prelude.{◌≡◌}
use Rattle.refusal_reasons.specs.{None, find, is_pending, take, tasks_of}
use Rattle.refusal_reasons.proofs.places.pending_task.Given as goal

abbrev pub invariant-loop-index : goal.invariant-loop-index
invariant-loop-index g l = let h = g.R.Readings.history l.readings in find (is_pending h) (take l.index (tasks_of h l.scope)) ≡ None
