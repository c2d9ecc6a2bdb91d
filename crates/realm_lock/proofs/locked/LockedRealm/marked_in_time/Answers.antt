use Rattle.std.proofs.Common.{false}
use Rattle.realm_lock.specs.{stays}
use Rattle.realm_lock.proofs.locked.LockedRealm.marked_in_time.Goals as goal

pub returns-in-Some-clause-passes : goal.returns-in-Some-clause-passes
returns-in-Some-clause-passes g c = (false, stays)
