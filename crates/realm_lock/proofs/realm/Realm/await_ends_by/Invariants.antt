-- The token and the clock are those of a wait so far, and the close goes on.
use Rattle.realm_lock.specs.{IsBegun, SeesMore, Waited, history_seen}
use Rattle.realm_lock.proofs.realm.Realm.await_ends_by.Given as goal

abbrev pub invariant-loop : goal.invariant-loop
invariant-loop g l =
    ((goal.iterator-loop g).can_next l.iterator' × (goal.iterator-loop g).is_finite l.iterator')
    × SeesMore l.fn.token l.token
    × Waited g.T.Time.reads l.fn.token l.fn.time l.token l.time
    × IsBegun (history_seen l.token) l.fn.token.actor l.fn.scope
