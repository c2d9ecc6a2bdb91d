use Rattle.scope_model.specs.{Words.Origin, Realm, length}
use Rattle.scope_model.proofs.Words.{◌∙◌, ap, arith}
use Rattle.scope_model.proofs.KeptEvents.{events_start, made_start}
use Rattle.scope_model.proofs.plain.evaluator.Plain.with_base.Goals as goal

pub invariant_of-result : goal.invariant_of-result
invariant_of-result c =
    let fresh = made_start c.args.limits c.args.base c.with_base.result c.in_ok-journal.journal c.with_base.ensures c.in_ok-journal.was in
    let binds = c.binds.ensures ∙ (ap (λ (b : Origin). b.binds) c.base.ensures ∙ ap (λ (r : Realm). r.history.base.binds) fresh) in
    events_start c.in_ok-journal.journal.realm c.args.limits c.args.base _ _ fresh c.in-Ok.ensures.items (omega (arith, ap length binds, c.in-Ok.ensures.capacity))
