use Rattle.balkreyn.proofs.Shown.{ages_now, reads_so}
use Rattle.balkreyn.proofs.act.contexts.CxActs.timed_tree.Goals as goal

pub returns : goal.returns
returns g c = reads_so _ _ _ _ (ages_now _ _ c.now-now.new.self c.now-now.result _ c.look-copied.result _ c.now-now.ensures.read c.waiting_tree_at.ensures) c.look-copied.ensures.answer.1
