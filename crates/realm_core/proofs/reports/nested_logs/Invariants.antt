-- What was made so far, the latest first.
use Rattle.realm_core.proofs.Words.{reverse}
use Rattle.realm_core.proofs.{Preparing.IsPreparing, Settling.left}
use Rattle.realm_core.proofs.reports.nested_logs.Given as goal

abbrev pub invariant-loop-next : goal.invariant-loop-next
invariant-loop-next l = IsPreparing l.realm.history l.actor l.scope (reverse l.shown.items) l.next

abbrev pub decreases-loop-next : goal.decreases-loop-next
decreases-loop-next l = left l.realm.history l.next
