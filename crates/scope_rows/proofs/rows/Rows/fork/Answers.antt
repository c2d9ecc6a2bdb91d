-- The row of the scope counts the task, whose own row is the last.
use Rattle.scope_rows.specs.{AreRowsOf, Fork, RowTable, followed}
use Rattle.scope_rows.proofs.Words.{subst, sym}
use Rattle.scope_rows.proofs.{ForkLaws.rows_forked, Writing.fork_written}
use Rattle.scope_rows.proofs.rows.Rows.fork.Goals as goal

pub returns-clause-rows : goal.returns-clause-rows
returns-clause-rows c =
    rw c.push.ensures
    (fork_written _ c.args.self.now c.args.scope c.args.place c.args.cancelled c.get_mut-row.result.now c.with_fork-row.result c.new_row.result c.self.view_is c.get_mut-row.ensures.value c.with_fork-row.ensures c.new_row.ensures)

pub returns-clause-agrees : goal.returns-clause-agrees
returns-clause-agrees c = λ L h actor label legal ok are now cut.
    subst (λ (t : RowTable). AreRowsOf (followed h (Fork actor c.args.scope label)) t) (sym (returns-clause-rows c))
    (rows_forked L h c.args.self.now (record { place = c.args.place; actor = actor; scope = c.args.scope; label = label }) c.args.cancelled legal ok are now cut)
