-- The lines so far stand, and no stream has failed.
use Rattle.std.specs.Prelude.{◌-◌, ◌<◌, ◌≡◌}
use Rattle.script_jobs.specs.{StandsUnless, false, length}
use Rattle.script_jobs.proofs.prompting.Talk.listen.Given as goal

abbrev pub decreases-reading : goal.decreases-reading
decreases-reading g l = 18446744073709551615 - l.reader.reads

abbrev pub invariant-reading : goal.invariant-reading
invariant-reading g l = record {
  stands : StandsUnless l.self.is_stale l.self.limits l.self.script l.self.lines.items;
  room : 0 < length l.piece;
  reads : l.reader.failed ≡ false;
  writes : l.writer.failed ≡ false;
}
