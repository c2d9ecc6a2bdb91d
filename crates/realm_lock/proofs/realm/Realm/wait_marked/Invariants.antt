-- While it waits, the seat is as it was.
use Rattle.std.proofs.Common.{◌≡◌}
use Rattle.realm_lock.proofs.realm.Realm.wait_marked.Given as goal

abbrev pub invariant-loop : goal.invariant-loop
invariant-loop g l =
    ((goal.iterator-loop g).can_next l.iterator' × (goal.iterator-loop g).is_finite l.iterator')
    × (l.seat.cell ≡ l.fn.cell)
    × (l.seat.known ≡ l.fn.seat.known)
