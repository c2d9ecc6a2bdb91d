-- The lines so far are the same.
use Rattle.std.specs.Prelude.{◌+◌, ◌≤◌}
use Rattle.script_jobs.specs.{length}
use Rattle.script_jobs.proofs.Compared.{SameSoFar}
use Rattle.script_jobs.proofs.comparing.first_difference.Given as goal

abbrev pub decreases-loop-rest : goal.decreases-loop-rest
decreases-loop-rest l = length l.one

abbrev pub invariant-loop-rest : goal.invariant-loop-rest
invariant-loop-rest l = record {
  same : SameSoFar l.number l.wanted l.given l.one l.other;
  numbered : l.number + length l.one ≤ length l.wanted + 1;
}
