-- The lines so far stand.
use Rattle.std.specs.Prelude.{◌≡◌}
use Rattle.script_jobs.specs.{StandsUnless, false, length}
use Rattle.script_jobs.proofs.prompting.Talk.hear_all.Given as goal

abbrev pub decreases-loop-line : goal.decreases-loop-line
decreases-loop-line g l = length l.rest

abbrev pub invariant-loop-line : goal.invariant-loop-line
invariant-loop-line g l = record {
  stands : StandsUnless l.self.is_stale l.self.limits l.self.script l.self.lines.items;
  writes : l.writer.failed ≡ false;
}
