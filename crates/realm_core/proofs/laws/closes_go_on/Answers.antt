use Rattle.realm_core.proofs.Closes.{goes_on}
use Rattle.realm_core.proofs.laws.closes_go_on.Goals as goal

pub returns : goal.returns
returns c = goes_on
