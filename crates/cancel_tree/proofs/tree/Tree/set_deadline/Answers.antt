-- The row is changed in its deadline alone, and nothing that is kept rests on that.
use Rattle.cancel_tree.specs.{AreKept, IsAdded, changed, with_deadline}
use Rattle.cancel_tree.proofs.Words.{◌∙◌, Some, ap, subst, sym}
use Rattle.cancel_tree.proofs.{ColumnLaws.kept_deadline, ListedLaws.listed_deadline, RowLaws.changed_set}
use Rattle.cancel_tree.proofs.tree.Tree.set_deadline.Goals as goal

pub invariant_of-self : goal.invariant_of-self
invariant_of-self c =
    let nodes = c.self.inside.nodes.items in
    let added = subst (λ ts. IsAdded ts c.args.scope) (sym c.self.view_is) c.requires in
    subst (λ ts. AreKept ts c.self.inside.links.items c.self.inside.cancels.items c.self.inside.listed)
    (sym (changed_set (with_deadline (Some c.args.deadline)) nodes c.args.scope c.index_mut.result.now _ added (ap (with_deadline (Some c.args.deadline)) c.index_mut.ensures.value)))
    (record {
      columns = kept_deadline nodes c.args.scope added.0 (Some c.args.deadline) c.self.inside.links.items c.self.inside.cancels.items c.self.invariant.columns;
      listed = listed_deadline nodes c.args.scope (Some c.args.deadline) c.self.inside.cancels.items c.self.inside.listed added.0 c.self.invariant.listed;
    })

pub returns : goal.returns
returns c =
    let nodes = c.self.inside.nodes.items in
    let added = subst (λ ts. IsAdded ts c.args.scope) (sym c.self.view_is) c.requires in
    changed_set (with_deadline (Some c.args.deadline)) nodes c.args.scope c.index_mut.result.now _ added (ap (with_deadline (Some c.args.deadline)) c.index_mut.ensures.value) ∙ ap (λ ts. changed ts c.args.scope (with_deadline (Some c.args.deadline))) c.self.view_is
