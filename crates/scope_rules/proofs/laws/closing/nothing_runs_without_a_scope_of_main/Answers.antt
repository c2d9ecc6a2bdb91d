use Rattle.scope_rules.proofs.ClosingScopes.{nothing_runs}
use Rattle.scope_rules.proofs.laws.closing.nothing_runs_without_a_scope_of_main.Goals as goal

pub returns : goal.returns
returns c = nothing_runs
