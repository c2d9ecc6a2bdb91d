use Rattle.cancel_tree.specs.{cancel_of, cancelled_at, is_some}
use Rattle.cancel_tree.proofs.OrderLaws.{order_unique}
use Rattle.cancel_tree.proofs.tree.Tree.cancel_order_is_one.Goals as goal

pub returns : goal.returns
returns c = order_unique (λ s. is_some (cancel_of c.args.self.now s)) (cancelled_at c.args.self.now)
