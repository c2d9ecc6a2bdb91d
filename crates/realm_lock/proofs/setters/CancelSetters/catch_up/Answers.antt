use Rattle.std.proofs.Common.{◌+◌, ◌∙◌, ◌≡◌, ap, arith, length, slice_get, subst, sym, vec_capacity}
use Rattle.realm_lock.specs.{CoreValue, MarksValue, Realm, is_cancelled}
use Rattle.realm_lock.proofs.Marking.{IsPartway, way_begins, way_cancelled, way_counts, way_ends, way_goes_on}
use Rattle.realm_lock.proofs.setters.CancelSetters.catch_up.Goals as goal

pub loop-next-init : goal.loop-next-init
loop-next-init g c =
    let it = c.nth_cancelled-next.ensures in
    let way = way_begins c.args.core.now c.args.self.now it.order.0 c.nth_cancelled-next.result c.requires it.order.1 (it.order.2 ∙ ap (λ (v : MarksValue). slice_get it.order.0 v.marked) c.self.view_is) in
    (it.kept, subst (λ (k : CoreValue). IsPartway k c.args.self.now c.nth_cancelled-next.result) (sym it.kept) way)

pub use_setter-requires-clause-cancelled : goal.use_setter-requires-clause-cancelled
use_setter-requires-clause-cancelled g c =
    ap (λ (r : Realm). is_cancelled r.history c.in-Some.scope) c.realm.ensures ∙ way_cancelled c.loop-next.core c.loop-next.self c.loop-next.next c.in-Some.scope c.loop-next.invariant.1 c.in-Some.is

pub overflow_add-self : goal.overflow_add-self
overflow_add-self g c =
    let under = way_counts c.loop-next.core c.loop-next.self c.loop-next.next c.in-Some.scope c.loop-next.invariant.1 c.in-Some.is in
    let marked : c.self-in-Some.inside.marked ≡ c.loop-next.self.marked = ap (λ (v : MarksValue). v.marked) (c.self-in-Some.view_is ∙ c.use_setter.ensures.kept) in
    let each : length c.self-in-Some.inside.setters.items ≡ length c.loop-next.self.setters = ap (λ (v : MarksValue). length v.setters) c.self-in-Some.view_is ∙ c.use_setter.ensures.each in
    omega (arith, under, marked, each, c.self-in-Some.inside.setters.ok.0)

pub loop-next-smaller : goal.loop-next-smaller
loop-next-smaller g c =
    let under = way_counts c.loop-next.core c.loop-next.self c.loop-next.next c.in-Some.scope c.loop-next.invariant.1 c.in-Some.is in
    let marked : c.self-in-Some.inside.marked ≡ c.loop-next.self.marked = ap (λ (v : MarksValue). v.marked) (c.self-in-Some.view_is ∙ c.use_setter.ensures.kept) in
    let each : length c.self-in-Some.inside.setters.items ≡ length c.loop-next.self.setters = ap (λ (v : MarksValue). length v.setters) c.self-in-Some.view_is ∙ c.use_setter.ensures.each in
    omega (arith, under, marked, each)

pub loop-next-preserved : goal.loop-next-preserved
loop-next-preserved g c =
    let it = c.nth_cancelled-next-in-Some.ensures in
    let mid = c.use_setter.new.self in
    let next = c.nth_cancelled-next-in-Some.result in
    let core = c.loop-next.core in
    let marked : c.self-in-Some.inside.marked ≡ mid.marked = ap (λ (v : MarksValue). v.marked) c.self-in-Some.view_is in
    let way = way_goes_on core c.realm.result.now.history c.loop-next.self mid c.in-Some.scope c.loop-next.next next it.order.0 (ap (λ (r : Realm). r.history) c.realm.ensures) c.loop-next.invariant.1 c.in-Some.is c.use_setter.ensures it.order.1 (it.order.2 ∙ ap (λ n. slice_get it.order.0 (n + 1)) marked) in
    let seen = subst (λ (v : MarksValue). IsPartway core v next) (sym (ap (λ (v : MarksValue). record v { marked = v.marked + 1 }) c.self-in-Some.view_is)) way in
    let inside = c.self-in-Some.inside in
    let now : MarksValue = record { setters = inside.setters.items; room = vec_capacity inside.setters; marked = inside.marked + 1 } in
    (it.kept ∙ c.loop-next.invariant.0, subst (λ (k : CoreValue). IsPartway k now next) (sym it.kept) seen)

pub returns-clause-marks : goal.returns-clause-marks
returns-clause-marks g c = way_ends c.loop-next.core c.loop-next.self c.loop-next.next c.loop-next.invariant.1 c.in_default.is
