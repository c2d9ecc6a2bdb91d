use Rattle.realm_core.proofs.Joining.{agrees_same}
use Rattle.realm_core.proofs.laws.holders_agree.Goals as goal

pub returns : goal.returns
returns c = agrees_same
