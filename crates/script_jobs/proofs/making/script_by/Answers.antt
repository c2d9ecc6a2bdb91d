use Rattle.script_jobs.proofs.Made.{none_made, one_made}
use Rattle.script_jobs.proofs.making.script_by.Goals as goal

pub loop-line-init : goal.loop-line-init
loop-line-init c = none_made _ c.new-text.ensures.bytes

pub loop-line-preserved : goal.loop-line-preserved
loop-line-preserved c = one_made _ _ _ c.loop-line.invariant c.in_ok-push_next.ensures
