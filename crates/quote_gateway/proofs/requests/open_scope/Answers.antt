use Rattle.quote_gateway.specs.{DoesInRoom, Err, Happened, Open, Opens, Policy, next_scope, policy_of}
use Rattle.quote_gateway.proofs.Words.{subst}
use Rattle.quote_gateway.proofs.Turned.{opens_none}
use Rattle.quote_gateway.proofs.requests.open_scope.Goals as goal

pub returns-in-Ok-clause-opened : goal.returns-in-Ok-clause-opened
returns-in-Ok-clause-opened g c =
    subst (λ (p : Policy). Opens c.args.ctx.now.token c.open.new.self.token p c.args.options c.in-Ok.scope) c.joiner_of.ensures c.in-Ok.ensures.answer

pub returns-in-Err-clause-refused : goal.returns-in-Err-clause-refused
returns-in-Err-clause-refused g c =
    let old = c.args.ctx.now.token in
    let new = c.open.new.self.token in
    let answer = subst (λ (p : Policy). DoesInRoom old new (Happened (Open old.actor p c.args.options)) next_scope (Err c.in-Err.refusal)) c.joiner_of.ensures c.in-Err.ensures.answer in
    opens_none old new (policy_of c.args.mode) c.args.options c.in-Err.refusal c.of_refusal.result answer c.of_refusal.ensures.call c.of_refusal.ensures.memory
