use Rattle.std.proofs.Common.{Err, false, inl, inr, subst, true}
use Rattle.realm_lock.specs.{Refusal, looks, passes, stays}
use Rattle.realm_lock.proofs.Waits.{in_time, join_looked}
use Rattle.realm_lock.proofs.locked.LockedRealm.join_in_time.Goals as goal

pub returns-in-Ok-tick_due-clause-answer : goal.returns-in-Ok-tick_due-clause-answer
returns-in-Ok-tick_due-clause-answer g c =
    let old = c.args.token.now in
    let there = c.join.new.token in
    let r = c.in-Err-NotReady.field-0 in
    let look = join_looked old there c.args.scope r (g.met.A.JoinAnswer.refused old there c.args.scope r c.in-Err-NotReady.ensures.answer) in
    in_time g.A.JoinAnswer.joins c.args.now old c.tick_due.new.token c.join-in-Ok-tick_due.new.token c.args.scope c.join-in-Ok-tick_due.result (true, passes (looks stays look) c.in-Some.ensures.0 c.in-Ok-tick_due.ensures.ticked) c.join-in-Ok-tick_due.ensures.answer

pub returns-in-Err-tick_due-clause-answer : goal.returns-in-Err-tick_due-clause-answer
returns-in-Err-tick_due-clause-answer g c =
    let old = c.args.token.now in
    let there = c.join.new.token in
    let r = c.in-Err-NotReady.field-0 in
    let look = join_looked old there c.args.scope r (g.met.A.JoinAnswer.refused old there c.args.scope r c.in-Err-NotReady.ensures.answer) in
    inr (record { there = there; moment = c.in-Some.moment; read = c.in-Some.ensures.0; turned = looks stays look; refused = c.in-Err-tick_due.ensures.ticked })

pub returns-in-None-clause-answer : goal.returns-in-None-clause-answer
returns-in-None-clause-answer g c = inl (record {
  there = c.args.token.now;
  turns = (false, stays);
  joins = subst (λ (r : Refusal). g.A.JoinAnswer.joins c.args.token.now c.join.new.token c.args.scope (Err r)) c.in-Err-NotReady.field-0-is c.in-Err-NotReady.ensures.answer;
})

pub returns-in-Err-clause-answer : goal.returns-in-Err-clause-answer
returns-in-Err-clause-answer g c = inl (record { there = c.args.token.now; turns = (false, stays); joins = c.in-Err.ensures.answer })

pub returns-in-Ok-clause-answer : goal.returns-in-Ok-clause-answer
returns-in-Ok-clause-answer g c = record { there = c.args.token.now; turns = (false, stays); joins = c.in-Ok.ensures.answer }
