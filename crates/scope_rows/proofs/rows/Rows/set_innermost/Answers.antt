-- The row of a task says it, or main's own field.
use Rattle.scope_rows.proofs.Words.{ne_eqb}
use Rattle.scope_rows.proofs.Writing.{inner_written}
use Rattle.scope_rows.proofs.rows.Rows.set_innermost.Goals as goal

pub returns-else-actor-eq-MAIN : goal.returns-else-actor-eq-MAIN
returns-else-actor-eq-MAIN c =
    inner_written _ c.args.self.now c.args.actor c.get_mut.result.now c.args.innermost c.unwrap_or.result c.self.view_is (ne_eqb c.args.actor 0 c.if-actor-eq-MAIN.false) c.get_mut.ensures.value c.unwrap_or.ensures
