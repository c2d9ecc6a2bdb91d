use Rattle.quote_gateway.specs.{ForkTurnedDown, IsTurnedDown, LabelValue, List, nests}
use Rattle.quote_gateway.proofs.Words.{subst}
use Rattle.quote_gateway.proofs.{Asking.here_inside, Going.begins_going, Going.scopes_kept, Going.tokens_on, Requested.fork_none, Requested.found_earlier, Timed.none_later, Timed.turned_call}
use Rattle.quote_gateway.proofs.serving.find.Goals as goal

pub returns-in-Ok-clause-keeps : goal.returns-in-Ok-clause-keeps
returns-in-Ok-clause-keeps g c =
    let old = c.args.ctx.now.token in
    let mid = c.fork_all.new.ctx.token in
    let new = c.answer.new.ctx.token in
    tokens_on old mid new nests c.fork_all.ensures.token c.fork_all.ensures.keeps (scopes_kept mid.limits mid.actor mid.seen new.seen c.answer.ensures.keeps)

pub returns-in-Ok-clause-found : goal.returns-in-Ok-clause-found
returns-in-Ok-clause-found g c =
    let old = c.args.ctx.now.token in
    let mid = c.fork_all.new.ctx.token in
    let begins = begins_going old.limits (nests old.actor) old.seen mid.seen c.fork_all.ensures.keeps in
    found_earlier old mid c.answer.new.ctx.token c.args.plan.now c.args.scope (g.U.Until.is_over c.args.until.now c.answer.new.clock) (g.U.Until.is_over c.args.until.now c.answer.new.clock) c.answer.result begins (λ past. past) c.answer.ensures.found

-- a fork was refused
pub give_up-requires : goal.give_up-requires
give_up-requires g c = record { here = here_inside c.args.ctx.now.token c.fork_all.new.ctx.token c.args.scope c.fork_all.ensures.token c.fork_all.ensures.keeps c.requires.empty.here }

pub returns-in-Err-clause-keeps : goal.returns-in-Err-clause-keeps
returns-in-Err-clause-keeps g c =
    let old = c.args.ctx.now.token in
    let mid = c.fork_all.new.ctx.token in
    let new = c.give_up.new.ctx.token in
    tokens_on old mid new nests c.fork_all.ensures.token c.fork_all.ensures.keeps (scopes_kept mid.limits mid.actor mid.seen new.seen c.give_up.ensures.keeps)

pub returns-in-Err-clause-found : goal.returns-in-Err-clause-found
returns-in-Err-clause-found g c =
    let old = c.args.ctx.now.token in
    let mid = c.fork_all.new.ctx.token in
    let plan = c.args.plan.now in
    let why = c.in-Err.fault in
    let here = here_inside old mid c.args.scope c.fork_all.ensures.token c.fork_all.ensures.keeps c.requires.empty.here in
    let Before = g.U.Until.is_over c.args.until.now c.args.clock.now in
    let Expired = g.U.Until.is_over c.args.until.now c.give_up.new.clock in
    let turned = subst (λ (ls : List LabelValue). IsTurnedDown (ForkTurnedDown old mid c.args.scope ls) why) c.requires.labelled c.in-Err.ensures.refused in
    none_later old mid c.give_up.new.ctx.token plan c.args.scope c.give_up.ensures.token c.give_up.ensures.keeps here Before Expired why (turned_call _ why turned)
    (fork_none old mid plan c.args.scope Before why c.fork_all.ensures.token turned)
