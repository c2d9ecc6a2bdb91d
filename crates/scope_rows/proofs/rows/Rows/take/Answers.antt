-- The task's row says the stage, and the row of its scope counts it so.
use Rattle.scope_rows.specs.{count_taken, stage_row}
use Rattle.scope_rows.proofs.Writing.{move_written}
use Rattle.scope_rows.proofs.rows.Rows.take.Goals as goal

pub returns : goal.returns
returns c =
    move_written (stage_row c.args.stage) (count_taken c.args.stage) _ c.args.self.now c.args.task c.get_mut-taken.result.now c.get_mut-row.result.now c.with_taken-row.result c.self.view_is c.requires.task c.get_mut-taken.ensures.value c.get_mut-row.ensures.value c.with_taken-row.ensures
