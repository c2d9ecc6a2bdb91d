-- What was passed is settled.
use Rattle.realm_core.proofs.Settling.{AreMet, left}
use Rattle.realm_core.proofs.waiting.unsettled.Given as goal

abbrev pub invariant-loop-next : goal.invariant-loop-next
invariant-loop-next l = AreMet l.realm.history l.scope l.next

abbrev pub decreases-loop-next : goal.decreases-loop-next
decreases-loop-next l = left l.realm.history l.next
