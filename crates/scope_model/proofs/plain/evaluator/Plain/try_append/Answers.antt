-- Room is made for the event, and it is kept.
use Rattle.scope_model.specs.{Accepts, Realm}
use Rattle.scope_model.proofs.Words.{arith, subst, sym, vec_capacity}
use Rattle.scope_model.proofs.KeptEvents.{event_fits, events_more, events_roomier}
use Rattle.scope_model.proofs.plain.evaluator.Plain.try_append.Goals as goal

pub push_reserved-requires : goal.push_reserved-requires
push_reserved-requires c =
    let ok = subst (λ (r : Realm). Accepts r.limits r.history c.args.event) (sym c.self.view_is) c.requires in
    let are = events_roomier _ _ c.reserve.new.self.items _ _ c.self.invariant c.reserve.ensures.items c.reserve.ensures.capacity in
    let fits = event_fits _ _ c.args.event c.reserve.new.self.items (vec_capacity c.reserve.new.self) (vec_capacity c.reserve.new.self) c.limits-legal.ensures.legal ok are (omega (arith, c.in-Ok.ensures.ok, c.saturating_sub-more.ensures, c.len.ensures, c.reserve.ensures.len, c.load.ensures, c.weight.ensures.cost)) in
    omega (arith, fits, c.reserve.new.self.ok.0)

pub invariant_of-self-2 : goal.invariant_of-self-2
invariant_of-self-2 c =
    let are = events_roomier _ _ c.reserve.new.self.items _ _ c.self.invariant c.reserve.ensures.items c.reserve.ensures.capacity in
    events_more c.self.inside.journal.realm c.append.new.self.realm c.args.event _ _ _ _ are c.in_ok-append.ensures.answer c.push_reserved.ensures.items
    (omega (arith, c.push_reserved.ensures.capacity, c.in-Ok.ensures.ok, c.saturating_sub-more.ensures, c.len.ensures, c.reserve.ensures.len, c.load.ensures, c.weight.ensures.cost))
