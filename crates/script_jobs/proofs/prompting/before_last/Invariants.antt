use Rattle.std.specs.Prelude.{◌≤◌}
use Rattle.script_jobs.specs.{length}
use Rattle.script_jobs.proofs.prompting.before_last.Given as goal

abbrev pub decreases-loop-count : goal.decreases-loop-count
decreases-loop-count l = l.count

abbrev pub invariant-loop-count : goal.invariant-loop-count
invariant-loop-count l = l.count ≤ length l.lines
