use Rattle.scope_index.proofs.CancelsKept.{kept_begun}
use Rattle.scope_index.proofs.cancels.CancelIndex.reset.Goals as goal

pub invariant_of-self : goal.invariant_of-self
invariant_of-self c = rw c.new.ensures (rw c.clear-2.ensures.items (rw c.clear.ensures (kept_begun c.args.before c.args.moment c.ranges.before.fits)))
