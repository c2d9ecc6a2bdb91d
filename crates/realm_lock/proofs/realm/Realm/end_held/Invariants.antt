use Rattle.realm_lock.proofs.Waiting.{IsClosing}
use Rattle.realm_lock.proofs.realm.Realm.end_held.Given as goal

abbrev pub invariant-loop : goal.invariant-loop
invariant-loop g l =
    ((goal.iterator-loop g).can_next l.iterator' × (goal.iterator-loop g).is_finite l.iterator')
    × IsClosing l.fn.token l.token l.fn.scope
