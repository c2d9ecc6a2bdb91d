use Rattle.quote_gateway.specs.{history_seen, state, task_check}
use Rattle.quote_gateway.proofs.{Going.looked, Reading.never_refused, Reading.task_known}
use Rattle.quote_gateway.proofs.requests.state_of.Goals as goal

-- a task of an open scope is known, so its state is not refused
pub unreachable-requires : goal.unreachable-requires
unreachable-requires g c =
    let old = c.args.ctx.now.token in
    let new = c.state.new.self.token in
    let h = history_seen new in
    let it = c.requires.forked in
    never_refused (task_check h c.args.task) (state h c.args.task) c.state.result c.in-Err.field-0 (task_known old new it.0 c.args.task c.state.ensures.answer.1.0 it.1) c.state.ensures.answer.1.1 c.in-Err.is

pub returns-clause-keeps : goal.returns-clause-keeps
returns-clause-keeps g c =
    let old = c.args.ctx.now.token in
    looked old.limits old.actor old.seen c.state.new.self.token.seen c.state.ensures.answer.1.0.1
