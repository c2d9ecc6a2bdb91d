-- How far the walk has come.
use Rattle.scope_rows.proofs.NestWalks.{AreWalked}
use Rattle.scope_rows.proofs.nests.next_unclosed.Given as goal

abbrev pub invariant-loop-level : goal.invariant-loop-level
invariant-loop-level l = AreWalked l.fn.rows l.fn.actor l.fn.scope l._level l.found l.next
