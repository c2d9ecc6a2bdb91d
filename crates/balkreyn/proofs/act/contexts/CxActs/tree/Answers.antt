use Rattle.balkreyn.proofs.Shown.{reads_so}
use Rattle.balkreyn.proofs.act.contexts.CxActs.tree.Goals as goal

pub returns : goal.returns
returns g c = reads_so _ _ _ _ c.waiting_tree_in.ensures c.look-copied.ensures.answer.1
