use Rattle.balkreyn.proofs.act.limits.Limiter.permit.Goals as goal

-- a cancel or a deadline came first
pub returns-in-Err-clause-answer : goal.returns-in-Err-clause-answer
returns-in-Err-clause-answer g c = (c.in-Err._mark, rw c.in-Err.is at c.in_ok-taken.ensures.answer)
