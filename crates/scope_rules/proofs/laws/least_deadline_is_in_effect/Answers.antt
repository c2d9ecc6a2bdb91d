use Rattle.scope_rules.proofs.LeastDeadlines.{effective_least}
use Rattle.scope_rules.proofs.laws.least_deadline_is_in_effect.Goals as goal

pub returns : goal.returns
returns c = effective_least
