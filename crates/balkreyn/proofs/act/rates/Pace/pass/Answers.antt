use Rattle.balkreyn.specs.{Pauses}
use Rattle.balkreyn.proofs.Words.{inr, rules}
use Rattle.balkreyn.proofs.Looked.{mark_shown, turn_refused}
use Rattle.balkreyn.proofs.act.rates.Pace.pass.Goals as goal

-- the sleep was refused
pub returns-in_err-slept-clause-answer : goal.returns-in_err-slept-clause-answer
returns-in_err-slept-clause-answer g c =
    turn_refused g.X.Scopes.token (λ millis old new slept. Pauses g.X.Acts.reads g.X.Acts.reading g.X.Acts.time g.X.Scopes.token g.X.Acts.seat millis old new slept) c.args.cx.now c.sleep.new.self c.millis_from-wait.result c.in_err-slept.field-0.0 c.from_residual.result (search rules) (record { before = c.args.cx.now; waited = search rules; answered = inr c.in_err-slept.ensures.answer })

-- a mark was shown in it
pub returns-then-is_some-clause-answer : goal.returns-then-is_some-clause-answer
returns-then-is_some-clause-answer g c =
    let it = mark_shown g.X.Scopes.token (λ old new slept. Pauses g.X.Acts.reads g.X.Acts.reading g.X.Acts.time g.X.Scopes.token g.X.Acts.seat c.millis_from-wait.result old new slept) c.args.cx.now c.args.cx.now c.sleep.new.self c.in_ok-slept.slept (search rules) (search rules) (inr c.in_ok-slept.ensures.answer) in
    (c.millis_from-wait.result, it.0, it.1)
