use Rattle.scope_rules.proofs.Answered.{outcome_stays}
use Rattle.scope_rules.proofs.laws.outcomes.outcome_stays.Goals as goal

pub returns : goal.returns
returns c = outcome_stays
