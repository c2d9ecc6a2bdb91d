-- What is kept, and the places, are told an event that costs nothing.
use Rattle.realm_state.specs.{Accepts, AreRowsOf, AreTrailsOf, IsIndexOf, Realm}
use Rattle.realm_state.proofs.Words.{free_room, refl, subst, sym}
use Rattle.realm_state.proofs.{Noted.can_tell, Noted.free_opens_none, Noted.of_next, Ready.ready_at}
use Rattle.realm_state.proofs.realm.RealmState.record.Goals as goal

pub apply-requires : goal.apply-requires
apply-requires g c =
    let accepted = subst (λ (r : Realm). Accepts r.limits r.history c.args.event.now) (sym c.self.view_is) c.requires.accepted in
    ready_at _ _ c.self.inside.index c.args.event.now _ c.limits-legal.ensures.legal accepted c.self.invariant.0 c.event_count-place.ensures.count

pub note-requires : goal.note-requires
note-requires g c =
    let h = c.self.inside.journal.realm.history in
    let t = c.self.inside.trails in
    let accepted = subst (λ (r : Realm). Accepts r.limits r.history c.args.event.now) (sym c.self.view_is) c.requires.accepted in
    can_tell c.self.inside.journal.realm.limits h c.args.event.now t c.scope_of_event-scope.result c.event_count-place.result c.limits-legal.ensures.legal accepted c.self.invariant.1
    (free_room h c.args.event.now t c.requires.free c.self.invariant.1)
    (λ opens. absurd (free_opens_none c.args.event.now c.requires.free opens))
    (λ other. c.scope_of_event-scope.ensures h (subst (AreRowsOf h) (sym c.rows.ensures) c.self.invariant.0.rows) other)
    c.event_count-place.ensures.count

pub invariant_of-self : goal.invariant_of-self
invariant_of-self g c =
    let h = c.self.inside.journal.realm.history in
    let L = c.self.inside.journal.realm.limits in
    let accepted = subst (λ (r : Realm). Accepts r.limits r.history c.args.event.now) (sym c.self.view_is) c.requires.accepted in (
      of_next (λ x. IsIndexOf x c.apply.new.index) c.self.inside.journal.realm c.self.inside.journal.realm c.record.new.self.realm c.args.event.now c.record.ensures.added refl
          (c.in-Ok.ensures.followed L h c.limits-legal.ensures.legal accepted c.self.invariant.0 c.event_count-place.ensures.count),
      of_next (λ x. AreTrailsOf x c.note.new.trails) c.self.inside.journal.realm c.self.inside.journal.realm c.record.new.self.realm c.args.event.now c.record.ensures.added refl
          (c.note.ensures L h c.limits-legal.ensures.legal (free_room h c.args.event.now c.self.inside.trails c.requires.free c.self.invariant.1) (λ other. c.scope_of_event-scope.ensures h (subst (AreRowsOf h) (sym c.rows.ensures) c.self.invariant.0.rows) other) c.self.invariant.1),
    )
