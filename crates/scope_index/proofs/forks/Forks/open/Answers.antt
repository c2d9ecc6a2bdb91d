-- The new scope has no tasks.
use Rattle.scope_index.proofs.Words.{arith, common_steps}
use Rattle.scope_index.proofs.ForkSteps.{opened_agrees}
use Rattle.scope_index.proofs.forks.Forks.open.Goals as goal

pub returns-clause-kept : goal.returns-clause-kept
returns-clause-kept c = grind (arith, common_steps)

pub returns-clause-agrees : goal.returns-clause-agrees
returns-clause-agrees c = λ L h actor policy options legal are. opened_agrees L h c.args.self.now _ actor policy options (returns-clause-kept c) legal are
