use Rattle.scope_rules.proofs.Inherited.{bound_as_opened_says, forked_as_opened}
use Rattle.scope_rules.proofs.laws.bindings.forks_want_the_bindings_of_the_opening.Goals as goal

pub returns-clause-tested : goal.returns-clause-tested
returns-clause-tested c = bound_as_opened_says

pub returns-clause-forked : goal.returns-clause-forked
returns-clause-forked c = forked_as_opened
