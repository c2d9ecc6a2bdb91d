use Rattle.realm_lock.specs.{looks, passes, stays}
use Rattle.realm_lock.proofs.locked.LockedRealm.pass_due.Goals as goal

pub returns-in-Ok-clause-passes : goal.returns-in-Ok-clause-passes
returns-in-Ok-clause-passes g c = passes stays c.in-Some.ensures.0 c.in-Ok.ensures.ticked

pub returns-in-Err-clause-passes : goal.returns-in-Err-clause-passes
returns-in-Err-clause-passes g c = record {
  there = c.args.token.now;
  moment = c.in-Some.moment;
  read = c.in-Some.ensures.0;
  turned = stays;
  refused = c.in-Err.ensures.ticked;
}

pub returns-in-None-clause-passes : goal.returns-in-None-clause-passes
returns-in-None-clause-passes g c = looks stays c.look.ensures.looks
