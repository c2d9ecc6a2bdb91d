-- What is left has no trails.
use Rattle.scope_journal.proofs.Words.{arith, common_steps}
use Rattle.scope_journal.proofs.TrailSteps.{begins}
use Rattle.scope_journal.proofs.trails.Trails.reset.Goals as goal

pub returns : goal.returns
returns c = record { agrees = λ base scopes. begins c.args.before base _ (grind (arith, common_steps)) scopes }
