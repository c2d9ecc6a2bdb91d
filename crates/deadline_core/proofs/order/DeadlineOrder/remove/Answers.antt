-- The order loses the scope's pair.
use Rattle.deadline_core.proofs.Words.{◌∙◌, sym}
use Rattle.deadline_core.proofs.{Due.has, Pairs.one_of_lists, Pairs.pairs_stand_for, Pairs.remove_none, Pairs.taken}
use Rattle.std.specs.FinMap as map
use Rattle.deadline_core.proofs.order.DeadlineOrder.remove.Goals as goal

pub invariant_of-self : goal.invariant_of-self
invariant_of-self c =
    let m = c.args.self.now in
    let lists = taken c.self.inside.pairs.keys m c.args.scope c.self.view_is c.self.invariant.one c.remove.new.self.keys c.in-Some.before
    (sym c.requires ∙ c.in-Some.is) (λ e t. c.remove.ensures.updates.0 (e, t)) in
    record { one = one_of_lists (has c.remove.new.self.keys) (map.get (map.remove m c.args.scope)) lists }

pub returns-in-Some : goal.returns-in-Some
returns-in-Some c =
    let m = c.args.self.now in
    pairs_stand_for c.remove.new.self.keys (map.remove m c.args.scope)
    (taken c.self.inside.pairs.keys m c.args.scope c.self.view_is c.self.invariant.one c.remove.new.self.keys c.in-Some.before
    (sym c.requires ∙ c.in-Some.is) (λ e t. c.remove.ensures.updates.0 (e, t)))

pub returns-in_default : goal.returns-in_default
returns-in_default c = remove_none c.args.self.now c.args.scope (sym c.requires ∙ c.in_default.is)
