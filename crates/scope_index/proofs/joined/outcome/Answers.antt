-- What the parts say is what the join answered.
use Rattle.scope_index.proofs.OutcomesTold.{answered}
use Rattle.scope_index.proofs.joined.outcome.Goals as goal

pub returns : goal.returns
returns c = answered c.answer_of.result _ c.args.scope c.args.rows.now c.args.cancels.now c.args.forks.now c.answer_of.ensures c.parts_of-at.ensures
