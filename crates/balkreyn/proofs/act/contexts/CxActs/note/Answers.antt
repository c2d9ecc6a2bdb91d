use Rattle.balkreyn.proofs.Shown.{notes_now, reads_so}
use Rattle.balkreyn.proofs.act.contexts.CxActs.note.Goals as goal

pub returns : goal.returns
returns g c = reads_so _ _ _ _ (notes_now _ _ c.now.new.self c.now.result _ _ _ c.reached-reached.result c.now.ensures.read c.note.ensures.times) c.reached-reached.ensures.answer
