use Rattle.quote_gateway.specs.{Err, IsTrue, false, history_seen, labels_of, listing_by, shapes, state}
use Rattle.quote_gateway.proofs.Words.{Ok, refl}
use Rattle.quote_gateway.proofs.Requested.{by_join, found_earlier, turned_none}
use Rattle.quote_gateway.proofs.{Asking.forked_still, Going.begins_same, Going.tokens_on, Reading.joined_here, Reading.outcome_still, Turned.join_keeps, Turned.join_refused}
use Rattle.quote_gateway.proofs.requests.join_and_answer.Goals as goal

pub returns-in-Err-clause-keeps : goal.returns-in-Err-clause-keeps
returns-in-Err-clause-keeps g c = join_keeps c.args.ctx.now.token c.join.new.self.token c.args.scope (Err c.in-Err.refusal) c.in-Err.ensures.answer.1

pub returns-in-Err-clause-found : goal.returns-in-Err-clause-found
returns-in-Err-clause-found g c =
    let old = c.args.ctx.now.token in
    let mid = c.join.new.self.token in
    let plan = c.args.plan.now in
    turned_none old mid plan c.args.scope ⊥ c.of_refusal.result (join_refused old mid plan c.args.scope c.in-Err.refusal c.of_refusal.result c.in-Err.ensures.answer.1 c.of_refusal.ensures.call c.of_refusal.ensures.memory)

pub answer_joined-requires : goal.answer_joined-requires
answer_joined-requires g c =
    record { joined = (c.args.scope, joined_here c.args.ctx.now.token c.join.new.self.token c.args.scope (labels_of c.args.plan.now) c.args.tasks.now c.in-Ok.joined c.in-Ok.ensures.answer.1 c.requires.forked) }

pub returns-in-Ok-clause-keeps : goal.returns-in-Ok-clause-keeps
returns-in-Ok-clause-keeps g c =
    let old = c.args.ctx.now.token in
    let mid = c.join.new.self.token in
    tokens_on old mid c.answer_joined.new.ctx.token shapes c.in-Ok.ensures.answer.1.0 (join_keeps old mid c.args.scope (Ok c.in-Ok.joined) c.in-Ok.ensures.answer.1) c.answer_joined.ensures.keeps

pub returns-in-Ok-clause-found : goal.returns-in-Ok-clause-found
returns-in-Ok-clause-found g c =
    let old = c.args.ctx.now.token in
    let mid = c.join.new.self.token in
    let new = c.answer_joined.new.ctx.token in
    let plan = c.args.plan.now in
    let scope = c.args.scope in
    let tasks = c.args.tasks.now in
    let joins = c.in-Ok.ensures.answer.1 in
    let there = forked_still old mid scope (labels_of plan) tasks joins.0 (join_keeps old mid scope (Ok c.in-Ok.joined) joins) c.requires.forked in
    let forked = forked_still mid new scope (labels_of plan) tasks c.answer_joined.ensures.token c.answer_joined.ensures.keeps there in
    let joined = outcome_still mid new scope c.in-Ok.joined.outcome c.answer_joined.ensures.keeps there.here joins.1.1.decided in
    found_earlier old old new plan scope (IsTrue false) ⊥ c.answer_joined.result (begins_same old.seen) (λ past. absurd past)
    (by_join old new plan (IsTrue false) scope tasks (listing_by (state (history_seen new)) tasks) c.in-Ok.joined.outcome c.answer_joined.result forked joined refl c.answer_joined.ensures.rests)
