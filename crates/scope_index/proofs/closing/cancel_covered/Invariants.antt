-- The walk goes down, to lower numbers.
use Rattle.scope_index.specs.{walk_length}
use Rattle.scope_index.proofs.Covering.{IsWalked}
use Rattle.scope_index.proofs.closing.cancel_covered.Given as goal

abbrev pub invariant-loop-next : goal.invariant-loop-next
invariant-loop-next l = IsWalked l.fn.rows l.fn.cancels l.cancels l.fn.from l.fn.scope l.fn.place l.next

abbrev pub decreases-loop-next : goal.decreases-loop-next
decreases-loop-next l = walk_length l.next
