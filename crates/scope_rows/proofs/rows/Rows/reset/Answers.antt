-- No rows agree with no events.
use Rattle.scope_rows.proofs.Words.{refl}
use Rattle.scope_rows.proofs.Empty.{rows_empty}
use Rattle.scope_rows.proofs.rows.Rows.reset.Goals as goal

pub returns-clause-agrees : goal.returns-clause-agrees
returns-clause-agrees c = λ base scopes tasks. rw (c.reset.ensures, c.reset-2.ensures) (rows_empty base _ refl refl refl scopes tasks)
