-- What is kept, and the places, are told an event that there is room for.
use Rattle.std.proofs.Common.{◌+◌, ◌∙◌, ◌≡◌, ap, arith, subst, sym}
use Rattle.realm_state.specs.{Accepts, AreRowsOf, AreTrailsOf, HasAppliedAt, HasRoomFor, IsIndexOf, Legal, Realm, load, weight}
use Rattle.realm_state.proofs.{Noted.can_tell, Noted.made_room, Noted.of_next, Noted.on_ok, Ready.ready_at}
use Rattle.realm_state.proofs.realm.RealmState.try_append.Goals as goal

pub apply-requires : goal.apply-requires
apply-requires c =
    let accepted = subst (λ (r : Realm). Accepts r.limits r.history c.args.event.now) (sym c.self.view_is) c.requires.accepted in
    ready_at _ _ c.self.inside.index c.args.event.now _ c.limits-legal.ensures.legal accepted c.self.invariant.0 c.event_count-place.ensures.count

pub note-requires : goal.note-requires
note-requires c =
    let h = c.self.inside.journal.realm.history in
    let accepted = subst (λ (r : Realm). Accepts r.limits r.history c.args.event.now) (sym c.self.view_is) c.requires.accepted in
    let n = c.load.result + c.args.load in
    let room = on_ok c.make_room.result (HasRoomFor c.make_room.new.trails c.args.event.now n) (sym c.is_err-2.ensures.value ∙ c.if-is_err-2.false) c.make_room.ensures.room in
    let size : n ≡ load h + weight c.args.event.now = omega (arith, c.load.ensures, ap (λ (r : Realm). load r.history) c.reserve.ensures.kept, c.requires.costs) in
    can_tell c.limits-legal.result h c.args.event.now c.make_room.new.trails c.scope_of_event-scope.result c.event_count-place.result
    (subst (λ L. Legal L h) (sym c.limits-legal.ensures.limits) c.limits-legal.ensures.legal)
    (subst (λ L. Accepts L h c.args.event.now) (sym c.limits-legal.ensures.limits) accepted)
    (c.make_room.ensures.agrees h c.self.invariant.1)
    (made_room h c.args.event.now c.make_room.new.trails n size room)
    room.1
    (λ other. c.scope_of_event-scope.ensures h (subst (AreRowsOf h) (sym c.rows.ensures) c.self.invariant.0.rows) other)
    c.event_count-place.ensures.count

pub invariant_of-self-2 : goal.invariant_of-self-2
invariant_of-self-2 c =
    let h = c.self.inside.journal.realm.history in
    let L = c.self.inside.journal.realm.limits in
    let accepted = subst (λ (r : Realm). Accepts r.limits r.history c.args.event.now) (sym c.self.view_is) c.requires.accepted in
    let n = c.load.result + c.args.load in
    let room = on_ok c.make_room.result (HasRoomFor c.make_room.new.trails c.args.event.now n) (sym c.is_err-2.ensures.value ∙ c.if-is_err-2.false) c.make_room.ensures.room in
    let size : n ≡ load h + weight c.args.event.now = omega (arith, c.load.ensures, ap (λ (r : Realm). load r.history) c.reserve.ensures.kept, c.requires.costs) in
    let followed_so = on_ok c.apply.result (HasAppliedAt c.self.inside.index c.args.event.now c.event_count-place.result c.apply.new.index) (sym c.is_err-3.ensures.value ∙ c.if-is_err-3.false) c.apply.ensures.followed in (
      of_next (λ g. IsIndexOf g c.apply.new.index) c.self.inside.journal.realm c.reserve.new.self.realm c.record.new.self.realm c.args.event.now c.record.ensures.added c.reserve.ensures.kept
          (followed_so L h c.limits-legal.ensures.legal accepted c.self.invariant.0 c.event_count-place.ensures.count),
      of_next (λ g. AreTrailsOf g c.note.new.trails) c.self.inside.journal.realm c.reserve.new.self.realm c.record.new.self.realm c.args.event.now c.record.ensures.added c.reserve.ensures.kept
          (c.note.ensures L h c.limits-legal.ensures.legal (made_room h c.args.event.now c.make_room.new.trails n size room) (λ other. c.scope_of_event-scope.ensures h (subst (AreRowsOf h) (sym c.rows.ensures) c.self.invariant.0.rows) other) (c.make_room.ensures.agrees h c.self.invariant.1)),
    )
