use Rattle.std.proofs.Common.{ℕ, ◌-◌, ◌∙◌, ap, arith, get_or, length, set, sym}
use Rattle.realm_lock.specs.{MarksValue}
use Rattle.realm_lock.proofs.Marking.{cancellation_there, cancelled_place, mark_told, uses_setter}
use Rattle.realm_lock.proofs.setters.CancelSetters.use_setter.Goals as goal

pub unreachable-requires : goal.unreachable-requires
unreachable-requires c = cancellation_there c.args.realm.now.history c.args.scope c.requires.cancelled (sym c.cancellation.ensures ∙ c.in_default.is)

pub overflow_sub-place : goal.overflow_sub-place
overflow_sub-place c = let it = cancelled_place c.args.realm.now.history c.args.scope c.requires.cancelled in omega (arith, it.2, c.retired_scopes.ensures)

pub overflow_sub-place-2 : goal.overflow_sub-place-2
overflow_sub-place-2 c = let it = cancelled_place c.args.realm.now.history c.args.scope c.requires.cancelled in omega (arith, it.2, c.retired_scopes.ensures)

pub index_mut-requires : goal.index_mut-requires
index_mut-requires c =
    let it = cancelled_place c.args.realm.now.history c.args.scope c.requires.cancelled in
    let each = ap (λ (v : MarksValue). length v.setters) c.self.view_is ∙ c.requires.each in
    omega (arith, it.1, it.2, c.retired_scopes.ensures, each, c.self.inside.setters.ok.0)

pub returns : goal.returns
returns c =
    let h = c.args.realm.now.history in
    let it = cancelled_place h c.args.scope c.requires.cancelled in
    let each = ap (λ (v : MarksValue). length v.setters) c.self.view_is ∙ c.requires.each in
    let place : ℕ = c.args.scope - c.retired_scopes.result - 1 in
    uses_setter h c.args.scope place c.args.self.now _ c.index_mut.result.now c.set.new.self _
    (omega (arith, it.2, c.retired_scopes.ensures))
    (omega (arith, it.1, it.2, c.retired_scopes.ensures, each))
    (c.index_mut.ensures.value ∙ ap (λ (v : MarksValue). get_or v.setters place c.index_mut.result.now) c.self.view_is)
    c.set.ensures.used
    (mark_told h c.args.scope c.in-Some.number c.in-Some.cause (sym c.cancellation.ensures ∙ c.in-Some.is))
    (ap (λ (v : MarksValue). record v { setters = set v.setters place c.set.new.self }) c.self.view_is)
