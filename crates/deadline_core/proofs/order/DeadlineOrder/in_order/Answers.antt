use Rattle.deadline_core.specs.{AreInOrder}
use Rattle.deadline_core.proofs.Words.{subst, sym}
use Rattle.deadline_core.proofs.{InOrder.pairs_in_order, Pairs.listed_of}
use Rattle.deadline_core.proofs.order.DeadlineOrder.in_order.Goals as goal

pub returns : goal.returns
returns c =
    let keys = c.self.inside.pairs.keys in
    let lists = listed_of keys c.args.self.now c.self.view_is c.self.invariant.one in
    subst (AreInOrder c.args.self.now) (sym c.iter.ensures.rest) (pairs_in_order keys c.args.self.now lists c.iter.ensures.ordered)
