use Rattle.balkreyn.proofs.act.channels.receive.Goals as goal

-- a cancel or a deadline came first
pub returns-in-Err : goal.returns-in-Err
returns-in-Err g c = (c.in-Err._mark, rw c.in-Err.is at c.in_ok-value.ensures.answer)
