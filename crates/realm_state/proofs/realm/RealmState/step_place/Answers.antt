-- The walk comes to the step, or shows that there is none.
use Rattle.realm_state.specs.{AreTrailsOf, Realm}
use Rattle.realm_state.proofs.Words.{◌∙◌, Some, opened_trail, subst, sym}
use Rattle.realm_state.proofs.StepPlaces.{Walked, is_opened, never_opened, never_taken, step_found, walk_begins, walk_ends, walk_on, walk_own, walk_within}
use Rattle.realm_state.proofs.realm.RealmState.step_place.Goals as goal

pub returns-then-is_none-clause-place : goal.returns-then-is_none-clause-place
returns-then-is_none-clause-place c =
    let h = c.args.self.now.history in
    never_taken h c.args.step c.args.scope _ c.limits-legal.ensures.legal (never_opened h c.args.scope c.opening.result c.is_none.result c.opening.ensures c.is_none.ensures c.if-is_none.true)

pub last-requires : goal.last-requires
last-requires c =
    let h = c.args.self.now.history in
    let are = subst (λ (r : Realm). AreTrailsOf r.history c.self.inside.trails) c.self.view_is c.self.invariant.1 in
    opened_trail h c.self.inside.trails c.args.scope are (is_opened h c.args.scope c.opening.result c.is_none.result c.opening.ensures c.is_none.ensures c.if-is_none.false)

pub loop-next-init : goal.loop-next-init
loop-next-init c =
    let are = subst (λ (r : Realm). AreTrailsOf r.history c.self.inside.trails) c.self.view_is c.self.invariant.1 in
    walk_begins c.args.self.now.history c.args.step c.args.scope (Some c.last.result) (c.last.ensures.agrees c.args.self.now.history are)

pub event-requires : goal.event-requires
event-requires c = walk_within c.args.self.now.history c.args.step c.args.scope c.in-Some.place (subst (Walked c.args.self.now.history c.args.step c.args.scope) c.in-Some.is c.loop-next.invariant)

pub returns-then-takes-clause-place : goal.returns-then-takes-clause-place
returns-then-takes-clause-place c = step_found c.args.self.now.history c.args.step c.args.scope _ c.in-Some.place c.event.result c.limits-legal.ensures.legal c.event.ensures (sym c.takes.ensures ∙ c.if-takes.true)

pub returns-then-takes-clause-within : goal.returns-then-takes-clause-within
returns-then-takes-clause-within c = walk_within c.args.self.now.history c.args.step c.args.scope c.in-Some.place (subst (Walked c.args.self.now.history c.args.step c.args.scope) c.in-Some.is c.loop-next.invariant)

pub loop-next-preserved : goal.loop-next-preserved
loop-next-preserved c =
    let h = c.args.self.now.history in
    let are = subst (λ (r : Realm). AreTrailsOf r.history c.self.inside.trails) c.self.view_is c.self.invariant.1 in
    let walked = subst (Walked h c.args.step c.args.scope) c.in-Some.is c.loop-next.invariant in
    walk_on h c.args.step c.args.scope c.in-Some.place c.event.result c.back-next.result walked c.event.ensures (sym c.takes.ensures ∙ c.if-takes.false)
    (c.back-next.ensures.agrees h c.args.scope are (opened_trail h c.self.inside.trails c.args.scope are (is_opened h c.args.scope c.opening.result c.is_none.result c.opening.ensures c.is_none.ensures c.if-is_none.false)) (walk_own h c.args.step c.args.scope c.in-Some.place walked))

pub returns-clause-place : goal.returns-clause-place
returns-clause-place c = walk_ends c.args.self.now.history c.args.step c.args.scope (subst (Walked c.args.self.now.history c.args.step c.args.scope) c.in_default.is c.loop-next.invariant)
