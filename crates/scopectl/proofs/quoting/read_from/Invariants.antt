-- What was read so far was taken.
use Rattle.std.specs.Prelude.{◌-◌, ◌<◌, ◌≡◌}
use Rattle.scopectl.specs.{ℕ, Consumes, HasTaken, List, false, length}
use Rattle.scopectl.proofs.quoting.read_from.Given as goal

abbrev pub decreases-reading : goal.decreases-reading
decreases-reading g l = 18446744073709551615 - l.reader.reads

abbrev pub invariant-reading : goal.invariant-reading
invariant-reading g l = record {
  so_far : (bytes : List ℕ) × Consumes (g.R.Read.remaining l.fn.reader.inner) (g.R.Read.remaining l.reader.inner) bytes × HasTaken l.plan bytes;
  room : 0 < length l.piece;
  sound : l.reader.failed ≡ false;
}
