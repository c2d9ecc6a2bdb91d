-- The token has only seen more, the scope stands open, and its tasks are those of the jobs so far.
use Rattle.std.specs.Prelude.{◌++◌, ◌≡◌}
use Rattle.quote_gateway.specs.{HasForked, KeepsScopes, LabelValue, List, SeesMore, labels_in}
use Rattle.quote_gateway.proofs.requests.fork_all.Given as goal

abbrev pub invariant-loop-job : goal.invariant-loop-job
invariant-loop-job g l =
    SeesMore l.fn.ctx.token l.ctx.token
    × KeepsScopes l.fn.ctx.token l.ctx.token
    × ((done : List LabelValue) × (labels_in l.fn.jobs.items ≡ done ++ labels_in l.job-iterator.rest.items) × HasForked l.ctx.token l.fn.scope done l.tasks.items)
