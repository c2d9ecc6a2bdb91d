use Rattle.quote_gateway.specs.{Err, HasExpired, IsTold, IsTrue, history_seen, labels_of, listing_by, shapes, state}
use Rattle.quote_gateway.proofs.Words.{Ok, refl}
use Rattle.quote_gateway.proofs.Requested.{by_join, found_earlier, none_earlier, turned_none}
use Rattle.quote_gateway.proofs.{Asking.forked_still, Asking.here_still, Going.begins_going, Going.begins_same, Going.sees_on, Going.tokens_on, Reading.joined_still, Reading.outcome_still}
use Rattle.quote_gateway.proofs.{Telling.on_ok_so, Telling.told_still, Timed.joined_by, Timed.joined_keeps, Timed.joined_none, Timed.none_later, Turned.pulse_refused}
use Rattle.quote_gateway.proofs.until.answer_in_time.Goals as goal

-- ---- the join was refused

pub end_jobs-requires : goal.end_jobs-requires
end_jobs-requires g c =
    let old = c.args.ctx.now.token in
    let mid = c.join_by.new.self.token in
    let keeps = joined_keeps g.K.Clock.reads old c.args.clock.now c.requires.forked.here.legal mid c.join_by.new.time c.args.scope (Err c.in-Err.refusal) c.in-Err.ensures.answer in
    record { here = here_still old mid c.args.scope c.join_by.ensures.rest.1 keeps c.requires.forked.here }

pub returns-in-Err-clause-keeps : goal.returns-in-Err-clause-keeps
returns-in-Err-clause-keeps g c =
    let old = c.args.ctx.now.token in
    let mid = c.join_by.new.self.token in
    let keeps = joined_keeps g.K.Clock.reads old c.args.clock.now c.requires.forked.here.legal mid c.join_by.new.time c.args.scope (Err c.in-Err.refusal) c.in-Err.ensures.answer in
    tokens_on old mid c.end_jobs.new.ctx.token shapes c.join_by.ensures.rest.1 keeps c.end_jobs.ensures.keeps

pub returns-in-Err-clause-found : goal.returns-in-Err-clause-found
returns-in-Err-clause-found g c =
    let old = c.args.ctx.now.token in
    let mid = c.join_by.new.self.token in
    let keeps = joined_keeps g.K.Clock.reads old c.args.clock.now c.requires.forked.here.legal mid c.join_by.new.time c.args.scope (Err c.in-Err.refusal) c.in-Err.ensures.answer in
    let here = here_still old mid c.args.scope c.join_by.ensures.rest.1 keeps c.requires.forked.here in
    let Before = HasExpired c.args.deadline (g.K.Clock.reading c.join_by.new.time) in
    let Expired = HasExpired c.args.deadline (g.K.Clock.reading c.end_jobs.new.clock) in
    none_later old mid c.end_jobs.new.ctx.token c.args.plan.now c.args.scope c.end_jobs.ensures.token c.end_jobs.ensures.keeps here Before Expired c.of_refusal.result c.of_refusal.ensures.call
    (joined_none g.K.Clock.reads old c.args.clock.now c.requires.forked.here.legal mid c.join_by.new.time c.args.plan.now c.args.scope Before
    c.in-Err.refusal c.of_refusal.result c.in-Err.ensures.answer c.of_refusal.ensures.call c.of_refusal.ensures.memory)

-- ---- it joined

pub end_jobs-requires-2 : goal.end_jobs-requires-2
end_jobs-requires-2 g c =
    let old = c.args.ctx.now.token in
    let mid = c.join_by.new.self.token in
    let keeps = joined_keeps g.K.Clock.reads old c.args.clock.now c.requires.forked.here.legal mid c.join_by.new.time c.args.scope (Ok c.in-Ok.joined) c.in-Ok.ensures.answer in
    record { here = here_still old mid c.args.scope c.join_by.ensures.rest.1 keeps c.requires.forked.here }

pub returns-in-Err-tell-clause-keeps : goal.returns-in-Err-tell-clause-keeps
returns-in-Err-tell-clause-keeps g c =
    let old = c.args.ctx.now.token in
    let mid = c.join_by.new.self.token in
    let ended = c.end_jobs-2.new.ctx.token in
    let keeps = joined_keeps g.K.Clock.reads old c.args.clock.now c.requires.forked.here.legal mid c.join_by.new.time c.args.scope (Ok c.in-Ok.joined) c.in-Ok.ensures.answer in
    let over = tokens_on old mid ended shapes c.join_by.ensures.rest.1 keeps c.end_jobs-2.ensures.keeps in
    tokens_on old ended c.tell.new.ctx.token shapes (sees_on old mid ended c.join_by.ensures.rest.1 c.end_jobs-2.ensures.token) over c.tell.ensures.keeps

pub returns-in-Err-tell-clause-found : goal.returns-in-Err-tell-clause-found
returns-in-Err-tell-clause-found g c =
    let old = c.args.ctx.now.token in
    let mid = c.join_by.new.self.token in
    let ended = c.end_jobs-2.new.ctx.token in
    let new = c.tell.new.ctx.token in
    let plan = c.args.plan.now in
    let reading = g.K.Clock.reading c.tell.new.clock in
    let Expired = HasExpired c.args.deadline reading in
    let why = c.of_refusal-in-Err-tell in
    let keeps = joined_keeps g.K.Clock.reads old c.args.clock.now c.requires.forked.here.legal mid c.join_by.new.time c.args.scope (Ok c.in-Ok.joined) c.in-Ok.ensures.answer in
    let over = tokens_on old mid ended shapes c.join_by.ensures.rest.1 keeps c.end_jobs-2.ensures.keeps in
    none_earlier old ended new plan c.args.scope Expired Expired why.result (begins_going old.limits (shapes old.actor) old.seen ended.seen over) (λ past. past)
    (turned_none ended new plan c.args.scope Expired why.result
    (pulse_refused ended new plan c.args.scope reading c.in-Err-tell.refusal why.result c.in-Err-tell.ensures.read c.in-Err-tell.ensures.refused why.ensures.call why.ensures.memory))

pub answer_joined-requires : goal.answer_joined-requires
answer_joined-requires g c =
    let old = c.args.ctx.now.token in
    let mid = c.join_by.new.self.token in
    let ended = c.end_jobs-2.new.ctx.token in
    let tasks = c.args.tasks.now in
    let joined = joined_by g.K.Clock.reads old mid c.args.clock.now c.join_by.new.time c.args.scope (labels_of c.args.plan.now) tasks c.in-Ok.joined c.in-Ok.ensures.answer c.requires.forked in
    let still = joined_still mid ended c.args.scope tasks c.end_jobs-2.ensures.token c.end_jobs-2.ensures.keeps joined in
    record { joined = (c.args.scope, joined_still ended c.tell.new.ctx.token c.args.scope tasks c.tell.ensures.token c.tell.ensures.keeps still) }

pub returns-clause-keeps : goal.returns-clause-keeps
returns-clause-keeps g c =
    let old = c.args.ctx.now.token in
    let mid = c.join_by.new.self.token in
    let ended = c.end_jobs-2.new.ctx.token in
    let new = c.answer_joined.new.ctx.token in
    let keeps = joined_keeps g.K.Clock.reads old c.args.clock.now c.requires.forked.here.legal mid c.join_by.new.time c.args.scope (Ok c.in-Ok.joined) c.in-Ok.ensures.answer in
    let over = tokens_on old mid ended shapes c.join_by.ensures.rest.1 keeps c.end_jobs-2.ensures.keeps in
    tokens_on old ended new shapes (sees_on old mid ended c.join_by.ensures.rest.1 c.end_jobs-2.ensures.token) over (tokens_on ended c.tell.new.ctx.token new shapes c.tell.ensures.token c.tell.ensures.keeps c.answer_joined.ensures.keeps)

pub returns-clause-found : goal.returns-clause-found
returns-clause-found g c =
    let old = c.args.ctx.now.token in
    let mid = c.join_by.new.self.token in
    let ended = c.end_jobs-2.new.ctx.token in
    let told = c.tell.new.ctx.token in
    let new = c.answer_joined.new.ctx.token in
    let plan = c.args.plan.now in
    let scope = c.args.scope in
    let tasks = c.args.tasks.now in
    let came = c.in-Ok.joined.outcome in
    let keeps = joined_keeps g.K.Clock.reads old c.args.clock.now c.requires.forked.here.legal mid c.join_by.new.time scope (Ok c.in-Ok.joined) c.in-Ok.ensures.answer in
    let there = forked_still old mid scope (labels_of plan) tasks c.join_by.ensures.rest.1 keeps c.requires.forked in
    let over = forked_still mid ended scope (labels_of plan) tasks c.end_jobs-2.ensures.token c.end_jobs-2.ensures.keeps there in
    let then = forked_still ended told scope (labels_of plan) tasks c.tell.ensures.token c.tell.ensures.keeps over in
    let forked = forked_still told new scope (labels_of plan) tasks c.answer_joined.ensures.token c.answer_joined.ensures.keeps then in
    let joined = outcome_still mid ended scope came c.end_jobs-2.ensures.keeps there.here c.in-Ok.ensures.answer.joins.1.1.decided in
    let still = outcome_still ended told scope came c.tell.ensures.keeps over.here joined in
    let stays = outcome_still told new scope came c.answer_joined.ensures.keeps then.here still in
    found_earlier old old new plan scope (IsTrue c.has_expired-expired.result) (HasExpired c.args.deadline (g.K.Clock.reading c.tell.new.clock)) c.answer_joined.result (begins_same old.seen) c.has_expired-expired.ensures.1
    (by_join old new plan (IsTrue c.has_expired-expired.result) scope tasks (listing_by (state (history_seen new)) tasks) came c.answer_joined.result forked stays refl c.answer_joined.ensures.rests)

pub returns-clause-told : goal.returns-clause-told
returns-clause-told g c =
    let old = c.args.ctx.now.token in
    let mid = c.join_by.new.self.token in
    let ended = c.end_jobs-2.new.ctx.token in
    let told = c.tell.new.ctx.token in
    let new = c.answer_joined.new.ctx.token in
    let reading = g.K.Clock.reading c.tell.new.clock in
    let keeps = joined_keeps g.K.Clock.reads old c.args.clock.now c.requires.forked.here.legal mid c.join_by.new.time c.args.scope (Ok c.in-Ok.joined) c.in-Ok.ensures.answer in
    let over = here_still mid ended c.args.scope c.end_jobs-2.ensures.token c.end_jobs-2.ensures.keeps (here_still old mid c.args.scope c.join_by.ensures.rest.1 keeps c.requires.forked.here) in
    let here = here_still ended told c.args.scope c.tell.ensures.token c.tell.ensures.keeps over in
    on_ok_so (IsTold (history_seen new) reading) c.answer_joined.result (told_still told new c.args.scope reading c.answer_joined.ensures.keeps here c.in_default.ensures.told)
