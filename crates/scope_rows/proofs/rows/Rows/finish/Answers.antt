-- The task's row says how it ended, and the row of its scope counts it so.
use Rattle.scope_rows.specs.{AreRowsOf, Finish, RowTable, count_finish, ended_row, followed, moved}
use Rattle.scope_rows.proofs.Words.{◌∙◌, ap, subst, sym}
use Rattle.scope_rows.proofs.{TaskLaws.rows_finished, Writing.move_written}
use Rattle.scope_rows.proofs.rows.Rows.finish.Goals as goal

pub returns-clause-rows : goal.returns-clause-rows
returns-clause-rows c =
    move_written (ended_row c.state_at_end-ended.result) count_finish _ c.args.self.now c.args.task c.get_mut-ended.result.now c.get_mut-row.result.now c.with_finish-row.result c.self.view_is c.requires.task c.get_mut-ended.ensures.value c.get_mut-row.ensures.value c.with_finish-row.ensures
    ∙ ap (λ x. moved c.args.self.now c.args.task (ended_row x) count_finish) c.state_at_end-ended.ensures

pub returns-clause-agrees : goal.returns-clause-agrees
returns-clause-agrees c = λ L h legal ok are cut.
    subst (λ (t : RowTable). AreRowsOf (followed h (Finish c.args.task c.args.end)) t) (sym (returns-clause-rows c)) (rows_finished L h c.args.self.now c.args.task c.args.end c.args.cancelled legal ok are cut)
