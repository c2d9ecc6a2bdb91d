use Rattle.cancel_tree.specs.{IsInward, outer_of, own_of}
use Rattle.cancel_tree.proofs.Words.{cancel_law, subst}
use Rattle.cancel_tree.proofs.RowLaws.{outer_inward}
use Rattle.cancel_tree.proofs.tree.Tree.first_cancel_is_own_or_outer.Goals as goal

pub returns : goal.returns
returns c =
    let inward = subst (λ ts. IsInward (outer_of ts)) c.self.view_is (outer_inward c.self.inside.nodes.items c.self.invariant.columns.inward) in
    cancel_law (outer_of c.args.self.now) inward (own_of c.args.self.now) c.args.scope
