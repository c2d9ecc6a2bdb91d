use Rattle.scope_rules.proofs.ClosingScopes.{closed_whole}
use Rattle.scope_rules.proofs.laws.closing.closed_scopes_are_whole.Goals as goal

pub returns : goal.returns
returns c = closed_whole
