use Rattle.balkreyn.specs.{Pauses}
use Rattle.balkreyn.proofs.Looked.{turn_later}
use Rattle.balkreyn.proofs.act.rates.Rate.pass.Goals as goal

-- a cancel or a deadline came before it was first in line
pub returns-in-None-clause-answer : goal.returns-in-None-clause-answer
returns-in-None-clause-answer g c = let it = rw c.in-None.is at c.in_ok-permit.ensures.answer in (1, it.0, it.1)

-- it was first
pub returns-clause-answer : goal.returns-clause-answer
returns-clause-answer g c =
    turn_later g.X.Scopes.token (λ millis old new slept. Pauses g.X.Acts.reads g.X.Acts.reading g.X.Acts.time g.X.Scopes.token g.X.Acts.seat millis old new slept) c.args.cx.now c.permit-asked.new.cx c.pass-passed.new.cx c.permit-asked.ensures.sees c.pass-passed.result c.pass-passed.ensures.answer
