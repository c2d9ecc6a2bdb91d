-- The walk goes down, to lower numbers.
use Rattle.scope_rows.specs.{walk_length}
use Rattle.scope_rows.proofs.Marking.{IsWalk}
use Rattle.scope_rows.proofs.rows.scopes.mark_closing.Given as goal

abbrev pub invariant-loop-next : goal.invariant-loop-next
invariant-loop-next l = IsWalk l.scope l.next l.rows l.fn.from l.fn.rows

abbrev pub decreases-loop-next : goal.decreases-loop-next
decreases-loop-next l = walk_length l.next
