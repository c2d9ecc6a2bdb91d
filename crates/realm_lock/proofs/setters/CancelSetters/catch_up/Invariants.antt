-- Part of the cancelled scopes have had their setters used, in the order of their cancellation.
use Rattle.std.proofs.Common.{◌-◌, ◌≡◌, length}
use Rattle.realm_lock.proofs.Marking.{IsPartway}
use Rattle.realm_lock.proofs.setters.CancelSetters.catch_up.Given as goal

abbrev pub invariant-loop-next : goal.invariant-loop-next
invariant-loop-next g l = (l.core ≡ l.fn.core) × IsPartway l.core l.self l.next

abbrev pub decreases-loop-next : goal.decreases-loop-next
decreases-loop-next g l = length l.self.setters - l.self.marked
