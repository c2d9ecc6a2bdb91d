-- More room leaves the trails.
use Rattle.scope_journal.proofs.Words.{rules}
use Rattle.scope_journal.proofs.TrailSteps.{roomy_agrees}
use Rattle.scope_journal.proofs.trails.Trails.reserve.Goals as goal

pub returns-clause-agrees : goal.returns-clause-agrees
returns-clause-agrees c = λ h are. roomy_agrees h c.args.self.now _ (search rules) (search rules) (search rules) (search rules) are
