-- The scope's row says that it is closed, and its actor's innermost is the one below.
use Rattle.scope_rows.specs.{AreRowsOf, EndClose, RowTable, closed_row, followed, with_innermost, with_scope}
use Rattle.scope_rows.proofs.Words.{◌∙◌, ap, subst, sym}
use Rattle.scope_rows.proofs.{EndLaws.rows_ended, Writing.below_read, Writing.scope_written}
use Rattle.scope_rows.proofs.rows.Rows.end_close.Goals as goal

pub returns-clause-rows : goal.returns-clause-rows
returns-clause-rows c =
    c.set_innermost.ensures
    ∙ (ap (λ t. with_innermost t c.args.actor c.get_mut-row.result.now.below) (scope_written closed_row _ c.args.self.now c.args.scope c.get_mut-row.result.now c.self.view_is c.get_mut-row.ensures.value)
    ∙ ap (with_innermost (with_scope c.args.self.now c.args.scope closed_row) c.args.actor) (below_read _ c.args.self.now c.args.scope c.get_mut-row.result.now c.self.view_is c.requires.scope c.get_mut-row.ensures.value))

pub returns-clause-agrees : goal.returns-clause-agrees
returns-clause-agrees c = λ L h legal ok are.
    subst (λ (t : RowTable). AreRowsOf (followed h (EndClose c.args.actor c.args.scope)) t) (sym (returns-clause-rows c))
    (rows_ended L h c.args.self.now c.args.actor c.args.scope legal ok are)
