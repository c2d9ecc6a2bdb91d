use Rattle.std.proofs.Common.{◌≡◌, false, true}
use Rattle.realm_lock.specs.{looks, passes, stays}
use Rattle.realm_lock.proofs.Waits.{begun_refused, begun_ticked}
use Rattle.realm_lock.proofs.locked.LockedRealm.is_settled_in_time.Goals as goal

pub returns-then-is_settled-clause-turned : goal.returns-then-is_settled-clause-turned
returns-then-is_settled-clause-turned g c = (false, looks stays c.is_settled.ensures.looks.0)

pub is_settled-requires-in-Ok-clause-begun : goal.is_settled-requires-in-Ok-clause-begun
is_settled-requires-in-Ok-clause-begun g c =
    begun_ticked c.args.token.now c.is_settled.new.token c.tick_due.new.token c.args.scope c.in-Some.moment c.is_settled.ensures.looks.0 c.is_settled.ensures.begun c.in-Ok.ensures.ticked

pub returns-in-Ok-clause-turned : goal.returns-in-Ok-clause-turned
returns-in-Ok-clause-turned g c =
    (true, looks (passes (looks stays c.is_settled.ensures.looks.0) c.in-Some.ensures.0 c.in-Ok.ensures.ticked) c.is_settled-in-Ok.ensures.looks.0)

pub returns-in-Ok-clause-settled : goal.returns-in-Ok-clause-settled
returns-in-Ok-clause-settled g c = λ is.
    let settled : c.is_settled-in-Ok.result ≡ true = cc in
    c.is_settled-in-Ok.ensures.settled settled

pub returns-in-Err-clause-turned : goal.returns-in-Err-clause-turned
returns-in-Err-clause-turned g c = record {
  there = c.is_settled.new.token;
  moment = c.in-Some.moment;
  read = c.in-Some.ensures.0;
  turned = looks stays c.is_settled.ensures.looks.0;
  refused = c.in-Err.ensures.ticked;
}

pub returns-in-Err-clause-begun : goal.returns-in-Err-clause-begun
returns-in-Err-clause-begun g c =
    begun_refused c.args.token.now c.is_settled.new.token c.tick_due.new.token c.args.scope c.in-Some.moment c.in-Err.refusal c.is_settled.ensures.looks.0.0 c.is_settled.ensures.begun c.in-Err.ensures.ticked

pub returns-in-None-clause-turned : goal.returns-in-None-clause-turned
returns-in-None-clause-turned g c = (false, looks stays c.is_settled.ensures.looks.0)
