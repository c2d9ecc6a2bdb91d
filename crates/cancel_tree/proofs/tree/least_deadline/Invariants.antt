-- The walk goes outwards, to lower numbers.
use Rattle.cancel_tree.specs.{deadline_of, outer_of}
use Rattle.cancel_tree.proofs.Words.{length}
use Rattle.cancel_tree.proofs.{LeastLaws.IsLeastSoFar, ReachLaws.place}
use Rattle.cancel_tree.proofs.tree.least_deadline.Given as goal

abbrev pub invariant-loop-next : goal.invariant-loop-next
invariant-loop-next l = IsLeastSoFar (outer_of l.nodes) (deadline_of l.nodes) (length l.nodes) l.fn.scope l.least l.next

abbrev pub decreases-loop-next : goal.decreases-loop-next
decreases-loop-next l = place l.next
