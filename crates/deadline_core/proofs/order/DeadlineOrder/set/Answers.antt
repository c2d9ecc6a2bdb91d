-- The order gains the new pair before it loses the old one.
use Rattle.deadline_core.proofs.Words.{◌∙◌, sym}
use Rattle.deadline_core.proofs.{Due.has, Pairs.one_of_lists, Pairs.pairs_stand_for, Pairs.set_again, Pairs.set_first, Views.insert_same, Views.other_moment, Views.same_moment}
use Rattle.std.specs.FinMap as map
use Rattle.deadline_core.proofs.order.DeadlineOrder.set.Goals as goal

pub returns-then-eq-clause-set : goal.returns-then-eq-clause-set
returns-then-eq-clause-set c = insert_same c.args.self.now c.args.scope c.args.deadline (sym c.requires ∙ same_moment _ _ (sym c.eq.ensures ∙ c.if-eq.true))

pub invariant_of-self-in-Some : goal.invariant_of-self-in-Some
invariant_of-self-in-Some c =
    let m = c.args.self.now in
    let lists = set_again c.self.inside.pairs.keys m c.args.scope c.self.view_is c.self.invariant.one c.insert.new.self.keys c.remove.new.self.keys c.in-Some.before c.args.deadline
    (sym c.requires ∙ c.in-Some.is) (other_moment _ _ _ (sym c.eq.ensures ∙ c.if-eq.false) c.in-Some.is)
    (λ e t. c.in_ok-insert.ensures.updates.0 (e, t)) (λ e t. c.remove.ensures.updates.0 (e, t)) in
    record { one = one_of_lists (has c.remove.new.self.keys) (map.get (map.insert m c.args.scope c.args.deadline)) lists }

pub invariant_of-self-in_default : goal.invariant_of-self-in_default
invariant_of-self-in_default c =
    let m = c.args.self.now in
    let lists = set_first c.self.inside.pairs.keys m c.args.scope c.self.view_is c.self.invariant.one c.insert.new.self.keys c.args.deadline
    (sym c.requires ∙ c.in_default.is) (λ e t. c.in_ok-insert.ensures.updates.0 (e, t)) in
    record { one = one_of_lists (has c.insert.new.self.keys) (map.get (map.insert m c.args.scope c.args.deadline)) lists }

pub returns-in-Some-clause-set : goal.returns-in-Some-clause-set
returns-in-Some-clause-set c =
    let m = c.args.self.now in
    pairs_stand_for c.remove.new.self.keys (map.insert m c.args.scope c.args.deadline)
    (set_again c.self.inside.pairs.keys m c.args.scope c.self.view_is c.self.invariant.one c.insert.new.self.keys c.remove.new.self.keys c.in-Some.before c.args.deadline
    (sym c.requires ∙ c.in-Some.is) (other_moment _ _ _ (sym c.eq.ensures ∙ c.if-eq.false) c.in-Some.is)
    (λ e t. c.in_ok-insert.ensures.updates.0 (e, t)) (λ e t. c.remove.ensures.updates.0 (e, t)))

pub returns-in_default-clause-set : goal.returns-in_default-clause-set
returns-in_default-clause-set c =
    let m = c.args.self.now in
    pairs_stand_for c.insert.new.self.keys (map.insert m c.args.scope c.args.deadline)
    (set_first c.self.inside.pairs.keys m c.args.scope c.self.view_is c.self.invariant.one c.insert.new.self.keys c.args.deadline
    (sym c.requires ∙ c.in_default.is) (λ e t. c.in_ok-insert.ensures.updates.0 (e, t)))
