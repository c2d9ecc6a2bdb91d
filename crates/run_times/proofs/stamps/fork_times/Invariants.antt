-- Those with the numbers so far.
use Rattle.std.proofs.Common.{◌≡◌}
use Rattle.run_times.specs.{forks_to}
use Rattle.run_times.proofs.stamps.fork_times.Given as goal

abbrev pub invariant-loop-index : goal.invariant-loop-index
invariant-loop-index g l = l.found.items ≡ forks_to (g.R.Readings.history l.readings) l.times l.index
