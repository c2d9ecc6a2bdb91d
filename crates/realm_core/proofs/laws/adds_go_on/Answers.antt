use Rattle.realm_core.proofs.Joining.{adds_on}
use Rattle.realm_core.proofs.laws.adds_go_on.Goals as goal

pub returns : goal.returns
returns c = adds_on
