-- Outer scopes have lower numbers.
use Rattle.cancel_tree.specs.{IsInward, outer_of}
use Rattle.cancel_tree.proofs.Words.{subst, sym}
use Rattle.cancel_tree.proofs.RowLaws.{outer_inward}
use Rattle.cancel_tree.proofs.tree.Tree.effective_deadline.Goals as goal

pub least_deadline-requires-clause-inward : goal.least_deadline-requires-clause-inward
least_deadline-requires-clause-inward c =
    subst (λ ts. IsInward (outer_of ts)) (sym c.deref.ensures.value) (outer_inward c.self.inside.nodes.items c.self.invariant.columns.inward)
