use Rattle.balkreyn.proofs.act.contexts.CxActs.now.Goals as goal

pub returns : goal.returns
returns g c = (c.now.new.self, c.now.ensures.read)
