use Rattle.balkreyn.proofs.Shown.{reads_so, remains_now}
use Rattle.balkreyn.proofs.act.contexts.CxActs.remaining.Goals as goal

pub returns : goal.returns
returns g c = reads_so _ _ _ _ (remains_now _ _ c.now-now.new.self c.now-now.result _ c.effective_deadline-found.result _ c.now-now.ensures.read c.left_in.ensures) c.effective_deadline-found.ensures.answer.1
