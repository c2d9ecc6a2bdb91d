use Rattle.balkreyn.proofs.Words.{rules}
use Rattle.balkreyn.proofs.act.channels.offer.Goals as goal

-- a cancel or a deadline came before there was room
pub returns-in-Ok-Some : goal.returns-in-Ok-Some
returns-in-Ok-Some g c =
    let slept = rw c.in-Ok-Some.field-0-is at c.in-Ok-Some.ensures in
    (search rules, (c.in-Ok-Some._mark, record { before = c.loop.cx; waited = c.loop.invariant.0; answered = slept.answer }))
