use Rattle.std.specs.Prelude.{◌≡◌}
use Rattle.scope_model.specs.{Words.Origin, Realm, base_of, length}
use Rattle.scope_model.proofs.Words.{◌∙◌, ap, arith, sym}
use Rattle.scope_model.proofs.KeptEvents.{base_fits, events_start}
use Rattle.scope_model.proofs.plain.evaluator.Plain.reset.Goals as goal

pub invariant_of-self : goal.invariant_of-self
invariant_of-self c =
    let h = c.self.inside.journal.realm.history in
    let same : c.args.base ≡ base_of h = c.requires ∙ ap (λ (r : Realm). base_of r.history) (sym c.self.view_is) in
    events_start c.reset.new.self.realm c.self.inside.journal.realm.limits c.args.base _ _ c.reset.ensures c.clear.ensures.items
    (omega (arith, base_fits h _ _ c.self.invariant, ap (λ (b : Origin). length b.binds) same, c.clear.ensures.capacity))
