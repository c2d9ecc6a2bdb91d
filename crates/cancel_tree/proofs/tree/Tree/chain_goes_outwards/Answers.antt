use Rattle.cancel_tree.specs.{IsInward, outer_of}
use Rattle.cancel_tree.proofs.Words.{chain_law, subst}
use Rattle.cancel_tree.proofs.RowLaws.{outer_inward}
use Rattle.cancel_tree.proofs.tree.Tree.chain_goes_outwards.Goals as goal

pub returns : goal.returns
returns c =
    let inward = subst (λ ts. IsInward (outer_of ts)) c.self.view_is (outer_inward c.self.inside.nodes.items c.self.invariant.columns.inward) in
    chain_law (outer_of c.args.self.now) inward c.args.scope
