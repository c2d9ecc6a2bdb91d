-- The rows of the scopes so far.
use Rattle.run_picture.specs.{AreScopeRows}
use Rattle.run_picture.proofs.columns.scope_rows.Given as goal

abbrev pub invariant-loop-index : goal.invariant-loop-index
invariant-loop-index g l = AreScopeRows l.rows.items (g.R.Readings.history l.readings) l.index
