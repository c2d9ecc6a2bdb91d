-- What was read so far is kept.
use Rattle.std.specs.Prelude.{◌-◌, ◌<◌, ◌≡◌}
use Rattle.script_jobs.specs.{Consumes, false, length}
use Rattle.script_jobs.proofs.whole.read_whole.Given as goal

abbrev pub decreases-reading : goal.decreases-reading
decreases-reading g l = 18446744073709551615 - l.reader.reads

abbrev pub invariant-reading : goal.invariant-reading
invariant-reading g l = record {
  so_far : Consumes (g.R.Read.remaining l.fn.reader.inner) (g.R.Read.remaining l.reader.inner) l.script.items;
  room : 0 < length l.piece;
  sound : l.reader.failed ≡ false;
}
