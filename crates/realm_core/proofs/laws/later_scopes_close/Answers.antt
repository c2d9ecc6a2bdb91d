use Rattle.realm_core.proofs.LaterClosing.{later_closing}
use Rattle.realm_core.proofs.laws.later_scopes_close.Goals as goal

pub returns : goal.returns
returns c = later_closing
