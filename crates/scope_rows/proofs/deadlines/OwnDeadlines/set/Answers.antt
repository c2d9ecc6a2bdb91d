-- The scope's deadline is written.
use Rattle.scope_rows.specs.{DeadlineTable.DeadlineTable, with_deadline}
use Rattle.scope_rows.proofs.Words.{ap}
use Rattle.scope_rows.proofs.DeadlineSteps.{moved_agrees}
use Rattle.scope_rows.proofs.deadlines.OwnDeadlines.set.Goals as goal

pub returns-clause-kept : goal.returns-clause-kept
returns-clause-kept c = ap (λ (t : DeadlineTable). with_deadline t c.args.scope c.args.deadline) c.self.view_is

pub returns-clause-agrees : goal.returns-clause-agrees
returns-clause-agrees c = λ h are. moved_agrees h c.args.self.now _ c.args.scope c.args.deadline (returns-clause-kept c) c.requires are
