-- What was collected so far.
use Rattle.balkreyn.proofs.Collected.{Collected}
use Rattle.balkreyn.proofs.act.came.all_values.Given as goal

abbrev pub invariant-loop-came : goal.invariant-loop-came
invariant-loop-came g l = Collected l.fn.found.items l.came-iterator.rest.items l.values.items l.cut
