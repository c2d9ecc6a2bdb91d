-- The walk marks the scopes that are covered, and the scope's row says whether others were.
use Rattle.scope_rows.specs.{AreRowsOf, BeginClose, RowTable, followed}
use Rattle.scope_rows.proofs.Words.{rules, subst, sym}
use Rattle.scope_rows.proofs.{CloseLaws.rows_begun, CloseWriting.close_written, Marking.marked_numbered}
use Rattle.scope_rows.proofs.rows.Rows.begin_close.Goals as goal

pub get_mut-requires : goal.get_mut-requires
get_mut-requires c = rw c.mark_closing.ensures (marked_numbered c.self.inside.scopes.before c.args.scope c.innermost-from.result c.self.inside.scopes.items (search rules))

pub returns-clause-rows : goal.returns-clause-rows
returns-clause-rows c =
    rw c.mark_closing.ensures
    (close_written _ c.args.self.now c.args.actor c.args.scope c.innermost-from.result c.get_mut.result.now c.is_this-out_of_order.result c.self.view_is c.innermost-from.ensures.row (rw c.mark_closing.ensures at c.get_mut.ensures.value) c.is_this-out_of_order.ensures)

pub returns-clause-agrees : goal.returns-clause-agrees
returns-clause-agrees c = λ L h legal ok are.
    subst (λ (t : RowTable). AreRowsOf (followed h (BeginClose c.args.actor c.args.scope)) t) (sym (returns-clause-rows c)) (rows_begun L h c.args.self.now c.args.actor c.args.scope legal ok are)
