use Rattle.balkreyn.proofs.Words.{rules}
use Rattle.balkreyn.proofs.act.contexts.CxActs.fail_after.Goals as goal

pub returns : goal.returns
returns g c = record { last = c.now.new.self; now = c.now.result; read = c.now.ensures.read; after = search rules }
