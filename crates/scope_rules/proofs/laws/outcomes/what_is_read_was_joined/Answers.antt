use Rattle.scope_rules.proofs.ReadTasks.{read_joined}
use Rattle.scope_rules.proofs.laws.outcomes.what_is_read_was_joined.Goals as goal

pub returns : goal.returns
returns c = read_joined
