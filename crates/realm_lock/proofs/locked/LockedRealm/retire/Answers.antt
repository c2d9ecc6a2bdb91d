use Rattle.realm_lock.specs.{CoreValue}
use Rattle.realm_lock.proofs.Words.{◌∙◌, ap, sym}
use Rattle.realm_lock.proofs.Behind.{marks_retired}
use Rattle.realm_lock.proofs.locked.LockedRealm.retire.Goals as goal

pub invariant_of-self : goal.invariant_of-self
invariant_of-self g c =
    marks_retired c.retire-result.result c.retire-result.new.self c.retire-result.new.share c.clear.new.self (sym c.is_ok.ensures.value ∙ c.if-is_ok.true) (ap (λ (k : CoreValue). k.steps) c.retire-result.ensures.steps.0)
    c.retire-result.ensures.base c.clear.ensures.0 c.clear.ensures.1
