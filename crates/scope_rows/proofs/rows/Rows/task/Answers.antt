-- What is read is the row of the task's number.
use Rattle.scope_rows.specs.{RowTable, task_row}
use Rattle.scope_rows.proofs.Words.{◌∙◌, ap}
use Rattle.scope_rows.proofs.Reading.{task_answer}
use Rattle.scope_rows.proofs.rows.Rows.task.Goals as goal

pub returns-clause-row : goal.returns-clause-row
returns-clause-row c = c.find.ensures ∙ ap (λ (t : RowTable). task_row t c.args.task) c.self.view_is

pub returns-clause-agrees : goal.returns-clause-agrees
returns-clause-agrees c = λ h are. task_answer h c.args.self.now c.args.task c.find.result (returns-clause-row c) are
