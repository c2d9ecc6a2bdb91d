use Rattle.balkreyn.proofs.Looked.{came_so}
use Rattle.balkreyn.proofs.act.valued.came_to.Goals as goal

pub returns-in-Some : goal.returns-in-Some
returns-in-Some g c = came_so g.X.Scopes.token g.J.Yields.may_yield g.J.Error.From.from_gives c.args.slots.now c.args.cx.now c.answer-answer.new.cx c.in-Some.slot.now c.args.task c.answer-answer.result c.came_of.result c.in-Some.ensures.0 c.in-Some.ensures.1 c.answer-answer.ensures c.came_of.ensures.came
