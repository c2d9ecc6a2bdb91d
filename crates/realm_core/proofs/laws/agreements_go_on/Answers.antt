use Rattle.realm_core.proofs.Joining.{agrees_on}
use Rattle.realm_core.proofs.laws.agreements_go_on.Goals as goal

pub returns : goal.returns
returns c = agrees_on
