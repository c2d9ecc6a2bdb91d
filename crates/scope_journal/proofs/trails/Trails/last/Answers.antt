-- The place that is kept of the scope is its last.
use Rattle.scope_journal.proofs.{Latest.last_agrees, TrailSteps.last_was}
use Rattle.scope_journal.proofs.trails.Trails.last.Goals as goal

pub returns-clause-last : goal.returns-clause-last
returns-clause-last c = last_was _ c.args.self.now c.args.scope c.get.result.now c.self.view_is c.requires c.get.ensures

pub returns-clause-agrees : goal.returns-clause-agrees
returns-clause-agrees c = λ h are. last_agrees h c.args.self.now c.args.scope _ (returns-clause-last c) c.requires are
