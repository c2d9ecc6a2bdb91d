use Rattle.balkreyn.specs.{asked, not_asked}
use Rattle.balkreyn.proofs.Words.{◌∙◌, refl, sym}
use Rattle.balkreyn.proofs.act.valued.given.Goals as goal

pub loop-slot-init : goal.loop-slot-init
loop-slot-init g c = (not_asked c.new-cames.ensures.items, refl)

pub loop-slot-preserved : goal.loop-slot-preserved
loop-slot-preserved g c = (
  asked c.loop-slot.invariant.0 (sym c.slot-item.is) (record { answer = c.answer-answer.result; says = c.answer-answer.ensures; is = rw c.loop-slot.invariant.1 at c.came_of.ensures.came }) c.in_ok-push.ensures.items,
  c.came_of.ensures.same ∙ c.loop-slot.invariant.1,
)
