use Rattle.scope_rules.specs.{chain, first_cancel, outer, own_cancel}
use Rattle.scope_rules.proofs.EarliestLaws.{cancel_earliest}
use Rattle.scope_rules.proofs.laws.cause_is_earliest.Goals as goal

pub returns : goal.returns
unfolding chain first_cancel
returns c = λ h s. cancel_earliest (outer h) (own_cancel h) s
