-- The row of the new scope is the last, and the scope is its actor's innermost.
use Rattle.scope_rows.specs.{AreRowsOf, Open, RowTable, followed}
use Rattle.scope_rows.proofs.Words.{subst, sym}
use Rattle.scope_rows.proofs.{OpenLaws.rows_opened, Writing.open_written}
use Rattle.scope_rows.proofs.rows.Rows.open.Goals as goal

pub returns-clause-rows : goal.returns-clause-rows
returns-clause-rows c =
    rw (c.set_innermost.ensures, c.push.ensures)
    (open_written _ c.args.self.now c.args.opening c.args.parent c.innermost-below.result c.args.height c.last_scope-scope.result c.self.view_is c.innermost-below.ensures.row c.last_scope-scope.ensures.number)

pub returns-clause-agrees : goal.returns-clause-agrees
returns-clause-agrees c = λ L h legal ok are now parent height.
    subst (λ (t : RowTable). AreRowsOf (followed h (Open c.args.opening.actor c.args.opening.policy c.args.opening.options)) t) (sym (returns-clause-rows c))
    (rows_opened L h c.args.self.now c.args.opening c.args.parent c.args.height legal ok are now parent height)
