use Rattle.std.proofs.Common.{◌∙◌, ◌≤◌, subst, sym}
use Rattle.cancel_tree.specs.{IfSome, IsAdded}
use Rattle.cancel_tree.proofs.{CauseLaws.cancel_within, ColumnLaws.kept_first_cancel, RowLaws.outer_inward}
use Rattle.cancel_tree.proofs.tree.Tree.first_cancel.Goals as goal

pub returns-clause-within : goal.returns-clause-within
returns-clause-within c =
    let nodes = c.self.inside.nodes.items in
    let added = subst (λ ts. IsAdded ts c.args.scope) (sym c.self.view_is) c.requires in
    let read = c.index.ensures ∙ kept_first_cancel nodes c.self.inside.links.items c.self.inside.cancels.items c.args.scope c.index.result.now added c.self.invariant.columns in
    subst (λ o. IfSome o (λ first_cancel. first_cancel.cause.scope ≤ c.args.scope)) (sym read) (cancel_within nodes c.args.scope c.self.invariant.columns.named (outer_inward nodes c.self.invariant.columns.inward))
