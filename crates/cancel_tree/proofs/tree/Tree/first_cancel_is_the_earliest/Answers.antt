use Rattle.cancel_tree.specs.{outer_of, own_of}
use Rattle.cancel_tree.proofs.Words.{cancel_earliest}
use Rattle.cancel_tree.proofs.tree.Tree.first_cancel_is_the_earliest.Goals as goal

pub returns : goal.returns
returns c = cancel_earliest (outer_of c.args.self.now) (own_of c.args.self.now) c.args.scope
