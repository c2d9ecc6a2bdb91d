-- Those of the scopes so far.
use Rattle.run_picture.specs.{AreClosings}
use Rattle.run_picture.proofs.closings.closings_of.Given as goal

abbrev pub invariant-loop-index : goal.invariant-loop-index
invariant-loop-index g l = AreClosings l.closings (g.R.Readings.history l.readings) l.index
