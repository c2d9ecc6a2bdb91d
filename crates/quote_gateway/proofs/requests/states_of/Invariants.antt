-- The token has only seen more, the scope stands open, and the states so far are those of the tasks so far.
use Rattle.std.specs.Prelude.{◌≡◌}
use Rattle.quote_gateway.specs.{KeepsTasks, SeesMore, history_seen, listing_by, state}
use Rattle.quote_gateway.proofs.Words.{take}
use Rattle.quote_gateway.proofs.requests.states_of.Given as goal

abbrev pub invariant-loop-task : goal.invariant-loop-task
invariant-loop-task g l =
    SeesMore l.fn.ctx.token l.ctx.token
    × KeepsTasks l.fn.ctx.token l.ctx.token
    × (l.states.items ≡ listing_by (state (history_seen l.ctx.token)) (take l.task-index l.tasks))
