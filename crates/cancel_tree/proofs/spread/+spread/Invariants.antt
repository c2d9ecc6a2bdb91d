-- The walk goes inwards, to greater numbers, and along the scopes inside one scope, to lower ones.
use Rattle.std.proofs.Common.{◌-◌, length}
use Rattle.cancel_tree.specs.{outer_of, own_of}
use Rattle.cancel_tree.proofs.{ReachLaws.place, SpreadLaws.IsListedSoFar, SpreadLaws.IsSpreadUpTo}
use Rattle.cancel_tree.proofs.spread.+spread.Given as goal

-- the scopes that are left inside a scope have greater numbers than it
abbrev pub decreases-spread : goal.decreases-spread
decreases-spread l = length l.nodes.now - l.scope

abbrev pub invariant-loop-next : goal.invariant-loop-next
invariant-loop-next l = IsSpreadUpTo (outer_of l.nodes) (own_of l.nodes) l.scope l.next l.first_cancel l.fn.cancels l.cancels × IsListedSoFar l.cancels l.fn.listed l.listed

abbrev pub decreases-loop-next : goal.decreases-loop-next
decreases-loop-next l = place l.next
