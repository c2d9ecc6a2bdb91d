-- The new row is kept right, and the scope outside leads to it.
use Rattle.std.proofs.Common.{[], ℕ, ◌++◌, ◌+◌, ◌∙◌, ◌∷◌, ◌≡◌, ◌≤◌, IsPermutation, None, Option, Some, ap, cond, length, not, rules, subst, sym, true, vec_capacity}
use Rattle.cancel_tree.specs.{AreKept, AreRuns, IsOnce, Links}
use Rattle.cancel_tree.proofs.{AddLaws.kept_new, AddLaws.outer_linked, ListedLaws.listed_added, ListedLaws.listed_room, ListedLaws.refused_same}
use Rattle.cancel_tree.proofs.tree.Tree.add.Goals as goal

abbrev no_links : Links
no_links = record { level = 0; first_inner = None; next_inner = None }

pub invariant_of-self-then-is_err-2 : goal.invariant_of-self-then-is_err-2
invariant_of-self-then-is_err-2 c =
    let room = c.make_room.ensures in
    let refused = c.is_err-2.ensures.negation ∙ ap not c.if-is_err-2.true in
    let nodes = refused_same _ c.append.new.nodes.items _ c.self.inside.nodes.items c.append.ensures.nodes refused in
    let links = refused_same _ c.append.new.links.items _ c.self.inside.links.items c.append.ensures.links refused in
    let cancels = refused_same _ c.append.new.cancels.items _ c.self.inside.cancels.items c.append.ensures.cancels refused in
    let kept : AreKept c.self.inside.nodes.items c.self.inside.links.items c.self.inside.cancels.items c.make_room.new.self = record {
      columns = c.self.invariant.columns;
      listed = listed_room c.self.inside.nodes.items c.self.inside.cancels.items c.self.inside.listed c.make_room.new.self room.scopes room.run room.place room.in_order room.kept_room c.self.invariant.listed;
    } in
    subst (λ ts. AreKept ts c.append.new.links.items c.append.new.cancels.items c.make_room.new.self) (sym nodes)
    (subst (λ ls. AreKept c.self.inside.nodes.items ls c.append.new.cancels.items c.make_room.new.self) (sym links)
    (subst (λ cs. AreKept c.self.inside.nodes.items c.self.inside.links.items cs c.make_room.new.self) (sym cancels) kept))

pub lead_to-requires : goal.lead_to-requires
lead_to-requires c =
    outer_linked c.args.self.now c.self.inside.nodes.items c.append.new.nodes.items c.self.inside.links.items c.append.new.links.items c.self.inside.cancels.items c.append.new.cancels.items
    c.self.view_is c.self.invariant.columns c.args.parent c.args.shield c.args.opened c.requires.there c.level_around-around.result c.last_inner.result c.outer-outer.result c.cancel_from-first_cancel.result _
    (c.is_err-2.ensures.negation ∙ ap not c.if-is_err-2.false) c.append.ensures.nodes c.append.ensures.links c.append.ensures.cancels c.level_around-around.ensures c.outer-outer.ensures c.last_inner.ensures c.cancel_from-first_cancel.ensures

pub invariant_of-self-2 : goal.invariant_of-self-2
invariant_of-self-2 c =
    let room = c.make_room.ensures in
    let roomy = listed_room c.self.inside.nodes.items c.self.inside.cancels.items c.self.inside.listed c.make_room.new.self room.scopes room.run room.place room.in_order room.kept_room c.self.invariant.listed in
    let enough : length c.self.inside.nodes.items + 1 ≤ vec_capacity c.make_room.new.self.scopes = search rules in
    let listed = listed_added c.args.self.now c.self.inside.nodes.items c.append.new.nodes.items c.self.inside.links.items c.self.inside.cancels.items c.append.new.cancels.items
    c.self.view_is c.self.invariant.columns c.args.parent c.args.shield c.args.opened c.requires.there c.requires.latest c.outer-outer.result c.cancel_from-first_cancel.result _
    (c.is_err-2.ensures.negation ∙ ap not c.if-is_err-2.false) c.append.ensures.nodes c.append.ensures.cancels c.outer-outer.ensures c.cancel_from-first_cancel.ensures
    no_links c.make_room.new.self c.add.new.self c.args.scope roomy c.requires.next enough
    (let e = c.is_some.ensures in subst (λ b. (when : ℕ → Option ℕ) → IsOnce c.make_room.new.self.scopes.items → AreRuns when c.make_room.new.self → (b ≡ true → when c.args.scope ≡ Some c.args.opened) → AreRuns when c.add.new.self) e c.add.ensures.runs)
    (subst (λ b. IsPermutation (cond b (c.make_room.new.self.scopes.items ++ c.args.scope ∷ []) c.make_room.new.self.scopes.items) c.add.new.self.scopes.items) c.is_some.ensures c.add.ensures.moved)
    (c.add.ensures.place ∙ ap (λ b. cond b c.args.opened c.make_room.new.self.place) c.is_some.ensures) c.add.ensures.room in
    let columns = kept_new c.args.self.now c.self.inside.nodes.items c.append.new.nodes.items c.self.inside.links.items c.append.new.links.items c.self.inside.cancels.items c.append.new.cancels.items
    c.self.view_is c.self.invariant.columns c.args.parent c.args.shield c.args.opened c.requires.there c.level_around-around.result c.last_inner.result c.outer-outer.result c.cancel_from-first_cancel.result _
    (c.is_err-2.ensures.negation ∙ ap not c.if-is_err-2.false) c.append.ensures.nodes c.append.ensures.links c.append.ensures.cancels c.level_around-around.ensures c.outer-outer.ensures c.last_inner.ensures c.cancel_from-first_cancel.ensures
    no_links c.args.scope c.lead_to.new.links.items c.lead_to.ensures c.requires.next in
    record { columns = columns; listed = listed }
