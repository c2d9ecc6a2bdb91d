-- What rests on the ends is what the plan allows.
use Rattle.quote_plan.proofs.Allowing.{given_allowed}
use Rattle.quote_plan.proofs.answering.answer.Goals as goal

pub returns-clause-allowed : goal.returns-clause-allowed
returns-clause-allowed c = given_allowed c.args.plan.now c.args.tasks.now c.args.outcome.now c.answer_by_ends.result c.answer_by_ends.ensures.rests
