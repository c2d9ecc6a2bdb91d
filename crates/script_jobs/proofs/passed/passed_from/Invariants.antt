-- So many were counted as were looked at.
use Rattle.std.specs.Prelude.{◌≡◌}
use Rattle.script_jobs.specs.{ArePassed}
use Rattle.script_jobs.proofs.passed.passed_from.Given as goal

abbrev pub invariant-loop-index : goal.invariant-loop-index
invariant-loop-index g l = record { same : l.count ≡ l.index; passed : ArePassed (g.R.Readings.history l.readings) l.scope l.count }
