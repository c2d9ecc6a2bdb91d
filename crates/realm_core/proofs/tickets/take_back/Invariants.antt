-- Those that were taken back are borne out.
use Rattle.std.proofs.Common.{◌++◌, ◌≡◌, All, List, length}
use Rattle.realm_core.specs.{BearsOut, TicketValue}
use Rattle.realm_core.proofs.tickets.take_back.Given as goal

abbrev pub invariant-loop-ticket : goal.invariant-loop-ticket
invariant-loop-ticket g l =
    (l.core ≡ l.fn.core)
    × ((taken : List TicketValue) × (l.fn.tickets.items ≡ l.tickets.items ++ taken) × All (BearsOut l.fn.core.steps) taken)
    × All (λ (t : TicketValue). t.table ≡ g.N.RealmName.table) l.tickets.items

abbrev pub decreases-loop-ticket : goal.decreases-loop-ticket
decreases-loop-ticket g l = length l.tickets.items
