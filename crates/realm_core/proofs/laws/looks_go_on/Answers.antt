use Rattle.realm_core.proofs.Joining.{looks_on}
use Rattle.realm_core.proofs.laws.looks_go_on.Goals as goal

pub returns : goal.returns
returns c = looks_on
