-- None was found so far.
use Rattle.std.proofs.Common.{ℕ, ◌<◌, ◌≡◌, ◌≤◌, Some, false, slice_get}
use Rattle.realm_core.specs.{TicketValue, is_ended_ticket_of}
use Rattle.realm_core.proofs.tickets.find_from.Given as goal

abbrev pub invariant-loop-at : goal.invariant-loop-at
invariant-loop-at l = (i : ℕ) (t : TicketValue) → l.place ≤ i → i < l.at → slice_get l.tickets i ≡ Some t → is_ended_ticket_of l.task t ≡ false
