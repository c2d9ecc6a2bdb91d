use Rattle.scope_index.proofs.EventSteps.{joined_next}
use Rattle.scope_index.proofs.cancels.CancelIndex.join.Goals as goal

pub returns-clause-agrees : goal.returns-clause-agrees
returns-clause-agrees c = λ L h actor legal was. joined_next L h actor c.args.scope c.args.self.now c.drop_deadline.new.self legal was c.requires c.drop_deadline.ensures
