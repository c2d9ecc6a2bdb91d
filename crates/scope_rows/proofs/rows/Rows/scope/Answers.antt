-- What is read is the row of the scope's number.
use Rattle.scope_rows.specs.{RowTable, scope_row}
use Rattle.scope_rows.proofs.Words.{◌∙◌, ap}
use Rattle.scope_rows.proofs.Reading.{scope_answer}
use Rattle.scope_rows.proofs.rows.Rows.scope.Goals as goal

pub returns-clause-row : goal.returns-clause-row
returns-clause-row c = c.find.ensures ∙ ap (λ (t : RowTable). scope_row t c.args.scope) c.self.view_is

pub returns-clause-agrees : goal.returns-clause-agrees
returns-clause-agrees c = λ h are. scope_answer h c.args.self.now c.args.scope c.find.result (returns-clause-row c) are
