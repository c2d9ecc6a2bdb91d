-- The tickets of the tasks so far are at their places.
use Rattle.realm_core.proofs.Placing.{IsPlacing}
use Rattle.realm_core.proofs.tickets.place_all.Given as goal

abbrev pub invariant-loop-task : goal.invariant-loop-task
invariant-loop-task l = IsPlacing l.realm.history l.tasks l.first l.fn.tickets.items l.tickets.items l.place l.task-index
