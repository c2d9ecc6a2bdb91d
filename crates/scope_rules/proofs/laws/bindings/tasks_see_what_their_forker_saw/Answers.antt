use Rattle.scope_rules.proofs.Inherited.{bindings_of_main, bindings_of_task}
use Rattle.scope_rules.proofs.laws.bindings.tasks_see_what_their_forker_saw.Goals as goal

pub returns-clause-task : goal.returns-clause-task
returns-clause-task c = bindings_of_task

pub returns-clause-main : goal.returns-clause-main
returns-clause-main c = bindings_of_main
