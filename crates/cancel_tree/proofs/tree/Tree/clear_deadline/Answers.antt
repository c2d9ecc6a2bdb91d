-- The row is changed in its deadline alone, and nothing that is kept rests on that.
use Rattle.cancel_tree.specs.{AreKept, IsAdded, changed, with_deadline}
use Rattle.cancel_tree.proofs.Words.{◌∙◌, None, ap, subst, sym}
use Rattle.cancel_tree.proofs.{ColumnLaws.kept_deadline, ListedLaws.listed_deadline, RowLaws.changed_set}
use Rattle.cancel_tree.proofs.tree.Tree.clear_deadline.Goals as goal

pub invariant_of-self : goal.invariant_of-self
invariant_of-self c =
    let nodes = c.self.inside.nodes.items in
    let added = subst (λ ts. IsAdded ts c.args.scope) (sym c.self.view_is) c.requires in
    subst (λ ts. AreKept ts c.self.inside.links.items c.self.inside.cancels.items c.self.inside.listed)
    (sym (changed_set (with_deadline None) nodes c.args.scope c.index_mut.result.now _ added (ap (with_deadline None) c.index_mut.ensures.value)))
    (record {
      columns = kept_deadline nodes c.args.scope added.0 None c.self.inside.links.items c.self.inside.cancels.items c.self.invariant.columns;
      listed = listed_deadline nodes c.args.scope None c.self.inside.cancels.items c.self.inside.listed added.0 c.self.invariant.listed;
    })

pub returns : goal.returns
returns c =
    let nodes = c.self.inside.nodes.items in
    let added = subst (λ ts. IsAdded ts c.args.scope) (sym c.self.view_is) c.requires in
    changed_set (with_deadline None) nodes c.args.scope c.index_mut.result.now _ added (ap (with_deadline None) c.index_mut.ensures.value) ∙ ap (λ ts. changed ts c.args.scope (with_deadline None)) c.self.view_is
