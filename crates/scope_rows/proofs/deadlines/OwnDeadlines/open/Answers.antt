-- The new scope has the deadline that it is opened with.
use Rattle.scope_rows.proofs.Words.{arith, common_steps}
use Rattle.scope_rows.proofs.DeadlineSteps.{opened_agrees}
use Rattle.scope_rows.proofs.deadlines.OwnDeadlines.open.Goals as goal

pub returns-clause-kept : goal.returns-clause-kept
returns-clause-kept c = grind (arith, common_steps)

pub returns-clause-agrees : goal.returns-clause-agrees
returns-clause-agrees c = λ L h actor policy options legal given are. opened_agrees L h c.args.self.now _ actor policy options c.args.deadline (returns-clause-kept c) given legal are
