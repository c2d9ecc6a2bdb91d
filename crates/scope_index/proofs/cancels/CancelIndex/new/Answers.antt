use Rattle.scope_index.proofs.CancelsKept.{kept_begun}
use Rattle.scope_index.proofs.cancels.CancelIndex.new.Goals as goal

pub invariant_of-result : goal.invariant_of-result
invariant_of-result c = rw c.new.ensures (rw c.new-3.ensures.items (rw c.new-2.ensures (kept_begun c.args.before c.args.moment c.ranges.before.fits)))
