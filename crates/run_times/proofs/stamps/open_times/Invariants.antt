-- Those with the numbers so far.
use Rattle.std.proofs.Common.{◌≡◌}
use Rattle.run_times.specs.{opens_to}
use Rattle.run_times.proofs.stamps.open_times.Given as goal

abbrev pub invariant-loop-index : goal.invariant-loop-index
invariant-loop-index g l = l.found.items ≡ opens_to (g.R.Readings.history l.readings) l.times l.index
