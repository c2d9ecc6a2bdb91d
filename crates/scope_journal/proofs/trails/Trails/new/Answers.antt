-- A realm begins with no trails.
use Rattle.scope_journal.proofs.Words.{arith, common_steps}
use Rattle.scope_journal.proofs.TrailSteps.{begins}
use Rattle.scope_journal.proofs.trails.Trails.new.Goals as goal

pub returns-clause-trails : goal.returns-clause-trails
returns-clause-trails c = grind (arith, common_steps)

pub returns-clause-agrees : goal.returns-clause-agrees
returns-clause-agrees c = λ base scopes. begins c.args.before base _ (grind (arith, common_steps)) scopes
