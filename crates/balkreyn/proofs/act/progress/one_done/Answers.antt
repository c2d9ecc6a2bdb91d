use Rattle.balkreyn.proofs.Looked.{found_later}
use Rattle.balkreyn.proofs.act.progress.one_done.Goals as goal

-- one has ended
pub returns-in-Some : goal.returns-in-Some
returns-in-Some g c = found_later g.X.Scopes.token g.J.Yields.may_yield g.J.Error.From.from_gives c.args.slots.now c.args.cx.now c.loop.cx c.first_done.new.cx c.in-Some.index c.in-Some.done.0 c.in-Some.done.1 c.loop.invariant (rw c.in-Some.is at c.in_ok-index.ensures.answer)
