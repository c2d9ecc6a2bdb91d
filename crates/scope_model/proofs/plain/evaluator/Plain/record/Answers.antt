-- There is room for the event, and it is kept.
use Rattle.scope_model.specs.{Accepts, Realm}
use Rattle.scope_model.proofs.Words.{arith, subst, sym, vec_capacity}
use Rattle.scope_model.proofs.KeptEvents.{event_fits, events_more}
use Rattle.scope_model.proofs.plain.evaluator.Plain.record.Goals as goal

pub push_reserved-requires : goal.push_reserved-requires
push_reserved-requires c =
    let ok = subst (λ (r : Realm). Accepts r.limits r.history c.args.event) (sym c.self.view_is) c.requires.accepted in
    let fits = event_fits _ _ c.args.event c.self.inside.events.items (vec_capacity c.self.inside.events) (vec_capacity c.self.inside.events) c.limits-legal.ensures.legal ok c.self.invariant (omega (arith, c.self.invariant.room, c.requires.free)) in
    omega (arith, fits, c.self.inside.events.ok.0)

pub invariant_of-self : goal.invariant_of-self
invariant_of-self c =
    events_more c.self.inside.journal.realm c.record.new.self.realm c.args.event _ _ _ _ c.self.invariant c.record.ensures.added c.push_reserved.ensures.items (omega (arith, c.push_reserved.ensures.capacity, c.self.invariant.room, c.requires.free))
