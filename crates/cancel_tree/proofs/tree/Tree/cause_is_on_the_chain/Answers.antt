use Rattle.cancel_tree.proofs.Words.{subst}
use Rattle.cancel_tree.proofs.CauseLaws.{IsNamed, cause_on_chain}
use Rattle.cancel_tree.proofs.tree.Tree.cause_is_on_the_chain.Goals as goal

pub returns : goal.returns
returns c = cause_on_chain c.args.self.now c.args.scope (subst IsNamed c.self.view_is c.self.invariant.columns.named)
