use Rattle.quote_gateway.proofs.{Asking.here_still, Closing.ends_after, Closing.reported_ends, Closing.stays_keeps}
use Rattle.quote_gateway.proofs.requests.close_scope.Goals as goal

pub returns-in-Ok-clause-ends : goal.returns-in-Ok-clause-ends
returns-in-Ok-clause-ends g c = reported_ends c.args.ctx.now.token c.close_scope.new.self.token c.args.scope c.args.ctx.now.team c.in-Ok._report c.in-Ok.ensures.answer

pub returns-in-Err-clause-ends : goal.returns-in-Err-clause-ends
returns-in-Err-clause-ends g c =
    let old = c.args.ctx.now.token in
    let mid = c.close_scope.new.self.token in
    let keeps = stays_keeps old mid c.args.scope c.args.ctx.now.team c.close_scope.new.self.team c.in-Err._why c.in-Err.ensures.answer in
    let here = here_still old mid c.args.scope c.close_scope.ensures.rest.1 keeps c.requires.here in
    ends_after old mid c.close_scope_bare-how.new.self.token c.args.scope c.close_scope_bare-how.result c.close_scope.ensures.rest.1 keeps (c.close_scope_bare-how.ensures.sure here.of) c.close_scope_bare-how.ensures.answer
