-- The token and the clock are those of a wait so far, and the seat is as it was.
use Rattle.std.proofs.Common.{◌≡◌}
use Rattle.realm_lock.specs.{SeesMore, Waited}
use Rattle.realm_lock.proofs.realm.Realm.wait_marked_by.Given as goal

abbrev pub invariant-loop : goal.invariant-loop
invariant-loop g l =
    ((goal.iterator-loop g).can_next l.iterator' × (goal.iterator-loop g).is_finite l.iterator')
    × SeesMore l.fn.token l.token
    × Waited g.T.Time.reads l.fn.token l.fn.time l.token l.time
    × (l.seat.cell ≡ l.fn.cell)
    × (l.seat.known ≡ l.fn.seat.known)
