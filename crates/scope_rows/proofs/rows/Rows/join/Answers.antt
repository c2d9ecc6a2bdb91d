-- The place is written into the scope's row.
use Rattle.scope_rows.specs.{AreRowsOf, Join, RowTable, followed, joined_row}
use Rattle.scope_rows.proofs.Words.{subst, sym}
use Rattle.scope_rows.proofs.{JoinLaws.rows_joined, Writing.scope_written}
use Rattle.scope_rows.proofs.rows.Rows.join.Goals as goal

pub returns-clause-rows : goal.returns-clause-rows
returns-clause-rows c =
    scope_written (joined_row c.args.place) _ c.args.self.now c.args.scope c.get_mut.result.now c.self.view_is c.get_mut.ensures.value

pub returns-clause-agrees : goal.returns-clause-agrees
returns-clause-agrees c = λ L h actor legal ok are now.
    subst (λ (t : RowTable). AreRowsOf (followed h (Join actor c.args.scope)) t) (sym (returns-clause-rows c)) (rows_joined L h c.args.self.now actor c.args.scope c.args.place legal ok are now)
