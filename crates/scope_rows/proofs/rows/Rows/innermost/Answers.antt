-- What is read is the innermost scope of the actor's row.
use Rattle.scope_rows.proofs.Words.{None, sym}
use Rattle.scope_rows.proofs.Reading.{task_innermost}
use Rattle.scope_rows.proofs.rows.Rows.innermost.Goals as goal

pub returns-in-None-clause-agrees : goal.returns-in-None-clause-agrees
returns-in-None-clause-agrees c = λ L h legal are.
    task_innermost L h c.args.self.now c.args.actor None legal are c.if-actor-eq-MAIN.false (sym c.in-None.ensures.row)
