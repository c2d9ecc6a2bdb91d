use Rattle.balkreyn.specs.{forked, unforked}
use Rattle.balkreyn.proofs.Words.{rules}
use Rattle.balkreyn.proofs.act.batches.staffed.Goals as goal

pub loop-number-init : goal.loop-number-init
loop-number-init g c = (search rules, unforked)

pub loop-number-preserved : goal.loop-number-preserved
loop-number-preserved g c = (search rules, forked c.loop-number.invariant.1 c.in_ok-fork.ensures.answer)
