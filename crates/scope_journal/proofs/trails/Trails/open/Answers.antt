-- The trail of the new scope begins with its open.
use Rattle.scope_journal.proofs.Words.{arith, common_steps}
use Rattle.scope_journal.proofs.TrailSteps.{opened_agrees}
use Rattle.scope_journal.proofs.trails.Trails.open.Goals as goal

pub returns-clause-kept : goal.returns-clause-kept
returns-clause-kept c = grind (arith, common_steps)

pub returns-clause-agrees : goal.returns-clause-agrees
returns-clause-agrees c = λ L h actor policy options legal loaded are. opened_agrees L h c.args.self.now _ actor policy options (returns-clause-kept c) legal loaded are
