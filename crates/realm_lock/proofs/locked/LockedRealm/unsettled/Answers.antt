use Rattle.realm_lock.proofs.Sleeping.{busy_at}
use Rattle.realm_lock.proofs.locked.LockedRealm.unsettled.Goals as goal

pub returns : goal.returns
returns g c = busy_at c.args.self.now c.self.inside.core c.realm.result.now c.args.scope c.in-Some.busy c.self.view_is c.realm.ensures c.requires c.in-Some.ensures
