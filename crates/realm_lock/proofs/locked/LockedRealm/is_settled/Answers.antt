use Rattle.realm_lock.specs.{CoreValue}
use Rattle.realm_lock.proofs.Words.{ap, begun_looked}
use Rattle.realm_lock.proofs.Sleeping.{held_at}
use Rattle.realm_lock.proofs.locked.LockedRealm.is_settled.Goals as goal

pub returns-clause-begun : goal.returns-clause-begun
returns-clause-begun g c =
    let old = c.args.token.now in
    begun_looked old.limits old.actor c.args.scope old.seen c.look.new.share.seen c.look.ensures.looks.1 c.requires.begun

pub returns-clause-held_up : goal.returns-clause-held_up
returns-clause-held_up g c =
    let old = c.args.token.now in
    let begun = begun_looked old.limits old.actor c.args.scope old.seen c.look.new.share.seen c.look.ensures.looks.1 c.requires.begun in
    held_at c.look.new.self c.realm.result.now c.look.new.share old.actor c.args.scope c.unsettled.result c.is_none.result c.realm.ensures (ap (λ (k : CoreValue). k.steps) c.look.ensures.steps.0) begun c.unsettled.ensures c.is_none.ensures
