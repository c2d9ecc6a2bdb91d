-- Those of the scopes so far.
use Rattle.run_picture.specs.{AreLasts, AreOwns, nat_eq}
use Rattle.std.specs.HashMap as hash
use Rattle.run_picture.proofs.arounds.owns_of.Given as goal

abbrev pub invariant-loop-index : goal.invariant-loop-index
invariant-loop-index g l = record {
  owns : AreOwns l.scopes.items (g.R.Readings.history l.readings) l.index;
  lasts : AreLasts (hash.get nat_eq l.last) (g.R.Readings.history l.readings) l.index;
}
