use Rattle.balkreyn.proofs.act.stops.watched.Goals as goal

-- a cancel or the scope's close came first
pub returns-in-Err : goal.returns-in-Err
returns-in-Err g c = (c.in-Err._mark, rw c.in-Err.is at c.in_ok-waited.ensures.answer)
