-- Each of the scope's places says its event's entry.
use Rattle.std.proofs.Common.{◌+◌, ◌∙◌, IsSome, ap, arith, refl, subst, sym}
use Rattle.realm_state.specs.{Legal, entry_at, filter_map}
use Rattle.realm_state.proofs.Words.{scope_passed, take_whole}
use Rattle.realm_state.proofs.{Said.AreSaid, Said.none_said, Said.not_unsaid, Said.one_said, Said.place_there, Said.said_next, realm.RealmState.said_at.Goals.in-Some+in_ok-push, realm.RealmState.said_at.Goals.in_default}
use Rattle.realm_state.proofs.realm.RealmState.said_at.Goals as goal

pub loop-place-init : goal.loop-place-init
loop-place-init c = none_said c.args.self.now.history c.args.scope c.args.places.now c.new-entries.result.items c.new-entries.ensures.items

pub tasks_of-tasks-requires : goal.tasks_of-tasks-requires
tasks_of-tasks-requires c = subst IsSome (sym (scope_passed c.args.self.now.history c.args.scope c.requires.check).is) refl

pub event-event-requires : goal.event-event-requires
event-event-requires c = place_there c.args.self.now.history c.args.scope c.args.places.now c.loop-place.place-index c.requires.places c.loop-place-test.true

pub loop-place-preserved : goal.loop-place-preserved
loop-place-preserved c =
    let h = c.args.self.now.history in
    let ps = c.args.places.now in
    let n = c.loop-place.place-index in
    let so = c.loop-place.invariant in
    let tasks = c.tasks_of-tasks.ensures in
    let says = c.said.ensures ∙ said_next c.limits-legal.result h c.args.scope ps c.tasks_of-tasks.result.now n c.loop-place.forked c.loop-place.entries.items c.event-event.result (subst (λ L. Legal L h) (sym c.limits-legal.ensures.limits) c.limits-legal.ensures.legal) c.requires.places tasks c.loop-place-test.true so c.event-event.ensures in
    elim c.match-said.branch [
      | in-Some+in_ok-push w ↦
          subst (λ k. AreSaid h c.args.scope ps (n + 1) c.match-said.entries.items k) (sym w.forked-is)
          (subst (λ v. AreSaid h c.args.scope ps (n + 1) v.items (c.loop-place.forked + w.forks-forked.result)) (sym w.entries-is)
          (one_said h c.args.scope ps n c.loop-place.forked w.forks-forked.result c.loop-place.entries.items w.push.new.self.items w.in-Some.entry c.loop-place-test.true so (sym says ∙ w.in-Some.is) w.in_ok-push.ensures.items w.forks-forked.ensures.count w.forks-forked.ensures.small))
      | in_default w ↦ absurd (not_unsaid h c.args.scope ps n c.requires.places c.loop-place-test.true (sym says ∙ w.in_default.is))
    ]

pub returns : goal.returns
returns c =
    let E = entry_at c.args.self.now.history c.args.scope in
    c.loop-place.invariant.said ∙ ap (filter_map E) (take_whole c.args.places.now c.loop-place.place-index (omega (arith, c.loop-place-test.false)))
