-- The tickets of the scopes so far are at their places.
use Rattle.realm_core.proofs.{Gathering.IsGathering, Settling.left}
use Rattle.realm_core.proofs.tickets.are_tickets_of.Given as goal

abbrev pub invariant-loop-next : goal.invariant-loop-next
invariant-loop-next l = IsGathering l.realm.history l.scope l.fn.tickets.items l.tickets.items l.placed l.next

abbrev pub decreases-loop-next : goal.decreases-loop-next
decreases-loop-next l = left l.realm.history l.next
