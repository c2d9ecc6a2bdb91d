-- The token goes on seeing.
use Rattle.job_runner.specs.{SeesMore}
use Rattle.job_runner.proofs.contexts.TaskCtx.close_what_is_open.Given as goal

abbrev pub invariant-loop : goal.invariant-loop
invariant-loop g l =
    ((goal.iterator-loop g).can_next l.iterator' × (goal.iterator-loop g).is_finite l.iterator')
    × SeesMore l.fn.self.token l.self.token
