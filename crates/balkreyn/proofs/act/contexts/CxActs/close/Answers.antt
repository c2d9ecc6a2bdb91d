use Rattle.balkreyn.proofs.act.contexts.CxActs.close.Goals as goal

pub returns : goal.returns
returns g c = (c.close_opened_by-found.new.clock, c.close_opened_by-found.ensures)
