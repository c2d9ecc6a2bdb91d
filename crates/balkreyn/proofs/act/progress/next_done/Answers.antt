use Rattle.balkreyn.proofs.Looked.{taken_out}
use Rattle.balkreyn.proofs.act.progress.next_done.Goals as goal

-- its job gave a value
pub returns-in-Ok-given : goal.returns-in-Ok-given
returns-in-Ok-given g c = taken_out g.X.Scopes.token g.J.Yields.may_yield g.J.Error.From.from_gives c.args.slots.now.items c.as_slice.result.now c.remove-slot.new.self.items c.args.cx.now c.one_done.new.cx c.take_owed.new.self c.in-Ok.index c.in-Ok.task c.in-Ok.given _ c.as_slice.ensures.value c.take_owed.ensures.token c.in-Ok-given.is c.remove-slot.ensures.items (rw c.in-Ok.is at c.in_ok-index.ensures)

-- or an error
pub returns-in-Ok : goal.returns-in-Ok
returns-in-Ok g c = taken_out g.X.Scopes.token g.J.Yields.may_yield g.J.Error.From.from_gives c.args.slots.now.items c.as_slice.result.now c.remove-slot.new.self.items c.args.cx.now c.one_done.new.cx c.take_owed.new.self c.in-Ok.index c.in-Ok.task c.in-Ok.given _ c.as_slice.ensures.value c.take_owed.ensures.token c.in-Err-given.is c.remove-slot.ensures.items (rw c.in-Ok.is at c.in_ok-index.ensures)
