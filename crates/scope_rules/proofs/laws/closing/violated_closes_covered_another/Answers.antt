use Rattle.scope_rules.proofs.Violations.{violated_law}
use Rattle.scope_rules.proofs.laws.closing.violated_closes_covered_another.Goals as goal

pub returns : goal.returns
returns c = violated_law
