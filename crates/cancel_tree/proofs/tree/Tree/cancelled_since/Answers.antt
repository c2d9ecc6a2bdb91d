-- The list is put in order, and the nodes are as they were.
use Rattle.cancel_tree.specs.{IsCancelOrder}
use Rattle.cancel_tree.proofs.Words.{refl, subst}
use Rattle.cancel_tree.proofs.ListedLaws.{cancel_order, listed_order}
use Rattle.cancel_tree.proofs.tree.Tree.cancelled_since.Goals as goal

pub invariant_of-self : goal.invariant_of-self
invariant_of-self c =
    let e = c.order.ensures in
    record { columns = c.self.invariant.columns; listed = listed_order c.self.inside.nodes.items c.self.inside.cancels.items c.self.inside.listed c.order.new.self e.runs e.moved e.place e.room c.self.invariant.listed }

pub returns : goal.returns
returns c =
    let nodes = c.self.inside.nodes.items in
    let e = c.order.ensures in
    let listed = listed_order nodes c.self.inside.cancels.items c.self.inside.listed c.order.new.self e.runs e.moved e.place e.room c.self.invariant.listed in
    let order = cancel_order nodes c.self.inside.links.items c.self.inside.cancels.items c.order.new.self c.self.invariant.columns listed e.in_order in
    ((refl, (λ t. tt), c.self.view_is), record { kept = tt; order = (c.order.new.self.scopes.items, subst (λ ts. IsCancelOrder ts c.order.new.self.scopes.items) c.self.view_is order, c.since.ensures) })
