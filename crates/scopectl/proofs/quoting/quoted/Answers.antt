use Rattle.scopectl.proofs.Words.{IfErr-weaker, IfOk-weaker}
use Rattle.scopectl.proofs.Quoted.{both_ok, of_line, of_plan, on_err}
use Rattle.scopectl.proofs.quoting.quoted.Goals as goal

pub returns-in-Ok-clause-ok : goal.returns-in-Ok-clause-ok
returns-in-Ok-clause-ok g c =
    let read = c.in-Ok.ensures.plan in
    IfOk-weaker c.answered.result _ _ (λ text is. record { bytes = read.bytes; whole = read.whole; makes = record { plan = c.in-Ok.plan; say_plan = read.say_plan; late = is.1; says = is.0 } }) (both_ok c.answered.result _ _ c.answered.ensures.ok c.answered.ensures.late)

pub returns-in-Ok-clause-part : goal.returns-in-Ok-clause-part
returns-in-Ok-clause-part g c =
    let read = c.in-Ok.ensures.plan in
    on_err c.answered.result (record { bytes = read.bytes; read = read.whole.read })

pub returns-in-Ok-clause-came : goal.returns-in-Ok-clause-came
returns-in-Ok-clause-came g c =
    IfErr-weaker c.answered.result _ _ (λ fault it. of_plan c.args.deadline c.args.after.now c.in-Ok.plan _ _ fault _ _ c.in-Ok.ensures.sound c.in-Ok.ensures.plan it) c.answered.ensures.fault

pub returns-in-Err-clause-came : goal.returns-in-Err-clause-came
returns-in-Err-clause-came g c = of_line c.args.deadline c.args.after.now _ _ c.in-Err.fault _ _ c.in-Err.ensures.came
