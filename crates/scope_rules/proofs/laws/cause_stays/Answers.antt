use Rattle.scope_rules.proofs.Staying.{cause_stays}
use Rattle.scope_rules.proofs.laws.cause_stays.Goals as goal

pub returns : goal.returns
returns c = cause_stays
