-- Nothing failed so far.
use Rattle.std.specs.Prelude.{◌≡◌}
use Rattle.script_jobs.specs.{length}
use Rattle.script_jobs.proofs.explained.write_notes.Given as goal

abbrev pub decreases-loop-rest : goal.decreases-loop-rest
decreases-loop-rest g l = length l.rest

abbrev pub invariant-loop-rest : goal.invariant-loop-rest
invariant-loop-rest g l = l.errors.failed ≡ l.fn.errors.failed
