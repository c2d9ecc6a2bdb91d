-- The rows of the tasks so far.
use Rattle.run_picture.specs.{AreTaskRows}
use Rattle.run_picture.proofs.columns.task_rows.Given as goal

abbrev pub invariant-loop-index : goal.invariant-loop-index
invariant-loop-index g l = AreTaskRows l.rows.items (g.R.Readings.history l.readings) l.index
