use Rattle.realm_lock.specs.{CoreValue}
use Rattle.realm_lock.proofs.Words.{ap}
use Rattle.realm_lock.proofs.Behind.{marks_begin}
use Rattle.realm_lock.proofs.locked.LockedRealm.new.Goals as goal

pub invariant_of-marked : goal.invariant_of-marked
invariant_of-marked g c = marks_begin c.new-core.result.0 c.new-setters.result (ap (λ (k : CoreValue). k.steps) c.new-core.ensures.core) c.new-setters.ensures.0 c.new-setters.ensures.1
