use Rattle.scope_rows.proofs.TaskLaws.{rows_started}
use Rattle.scope_rows.proofs.rows.Rows.start.Goals as goal

pub returns-clause-agrees : goal.returns-clause-agrees
returns-clause-agrees c = λ L h legal ok are. rows_started L h c.args.self.now _ c.args.task c.take.ensures legal ok are
