use Rattle.balkreyn.proofs.Words.{inl, refl}
use Rattle.balkreyn.proofs.act.watches.Watch.act.Goals as goal

-- a mark was shown in the last sleep
pub returns-in-Ok-Some : goal.returns-in-Ok-Some
returns-in-Ok-Some g c =
    let slept = rw c.in-Ok-Some.field-0-is at c.in-Ok-Some.ensures in
    (refl, inl (c.in-Ok-Some._mark, record { before = c.loop.cx; waited = c.loop.invariant; answered = slept.answer }))
