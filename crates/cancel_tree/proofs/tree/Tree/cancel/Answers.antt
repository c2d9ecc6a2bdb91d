-- The first own cancel is put into the scope's row, and its first cancel at what it reaches if no earlier one is there.
use Rattle.std.proofs.Common.{◌++◌, ◌∙◌, ap, arith, drop, length, subst, sym, take}
use Rattle.cancel_tree.specs.{AreKept, IsAdded, IsInward, IsLatest, IsLinked, IsListOf, IsSpread, cancel_at, changed, is_at_or_before, outer_of, own_of, reached, with_own}
use Rattle.cancel_tree.proofs.{ColumnLaws.kept_cancel, ColumnLaws.kept_first_cancel, ColumnLaws.kept_later, ColumnLaws.none_from_test, ColumnLaws.outers_after, ColumnLaws.own_read, ColumnLaws.own_stays, ColumnLaws.rows_after}
use Rattle.cancel_tree.proofs.{ColumnLaws.written_back, ListLaws.listed_moved, ListedLaws.listed_cancel, ListedLaws.listed_later, RowLaws.outer_inward}
use Rattle.cancel_tree.proofs.tree.Tree.cancel.Goals as goal

pub returns-then-is_some : goal.returns-then-is_some
returns-then-is_some c =
    let nodes = c.self.inside.nodes.items in
    let added = subst (λ ts. IsAdded ts c.args.scope) (sym c.self.view_is) c.requires.added in
    let m = cancel_at c.args.number c.args.scope c.args.kind in
    sym c.self.view_is ∙ own_stays nodes c.args.scope c.index.result.now m added c.index.ensures (sym c.is_some.ensures ∙ c.if-is_some.true)
    ∙ ap (λ ts. changed ts c.args.scope (with_own m)) c.self.view_is

pub put_own-requires-clause-added : goal.put_own-requires-clause-added
put_own-requires-clause-added c = subst (λ ts. IsAdded ts c.args.scope) (sym c.self.view_is) c.requires.added

pub put_own-requires-clause-none : goal.put_own-requires-clause-none
put_own-requires-clause-none c =
    sym (own_read c.self.inside.nodes.items c.args.scope c.index.result.now (subst (λ ts. IsAdded ts c.args.scope) (sym c.self.view_is) c.requires.added) c.index.ensures) ∙ none_from_test _ (sym c.is_some.ensures ∙ c.if-is_some.false)

pub spread-requires-clause-added : goal.spread-requires-clause-added
spread-requires-clause-added c =
    let rows = rows_after c.self.inside.nodes.items _ c.args.scope (cancel_at c.args.number c.args.scope c.args.kind) (c.deref.ensures.value ∙ c.put_own.ensures) in
    (c.requires.added.0, omega (arith, c.requires.added.1, ap length c.self.view_is, rows))

pub spread-requires-clause-rows : goal.spread-requires-clause-rows
spread-requires-clause-rows c =
    ap length c.deref-then-is_cause.ensures.value ∙ c.self.invariant.columns.rows ∙ sym (rows_after c.self.inside.nodes.items _ c.args.scope (cancel_at c.args.number c.args.scope c.args.kind) (c.deref.ensures.value ∙ c.put_own.ensures))

pub spread-requires-clause-columns : goal.spread-requires-clause-columns
spread-requires-clause-columns c =
    ap length c.deref_mut.ensures.value ∙ c.self.invariant.columns.columns ∙ sym (rows_after c.self.inside.nodes.items _ c.args.scope (cancel_at c.args.number c.args.scope c.args.kind) (c.deref.ensures.value ∙ c.put_own.ensures))

pub spread-requires-clause-inward : goal.spread-requires-clause-inward
spread-requires-clause-inward c =
    let same = outers_after c.args.self.now c.self.inside.nodes.items _ c.args.scope (cancel_at c.args.number c.args.scope c.args.kind) c.self.view_is c.requires.added (c.deref.ensures.value ∙ c.put_own.ensures) in
    subst IsInward (sym same) (outer_inward c.self.inside.nodes.items c.self.invariant.columns.inward)

pub spread-requires-clause-linked : goal.spread-requires-clause-linked
spread-requires-clause-linked c =
    let same = outers_after c.args.self.now c.self.inside.nodes.items _ c.args.scope (cancel_at c.args.number c.args.scope c.args.kind) c.self.view_is c.requires.added (c.deref.ensures.value ∙ c.put_own.ensures) in
    subst (λ f. IsLinked f c.deref-then-is_cause.result.now) (sym same) (subst (IsLinked (outer_of c.self.inside.nodes.items)) (sym c.deref-then-is_cause.ensures.value) c.self.invariant.columns.linked)

pub spread-requires-clause-whole : goal.spread-requires-clause-whole
spread-requires-clause-whole c =
    subst (λ cs. IsListOf cs c.begin.new.self.scopes.items) (sym c.deref_mut.ensures.value)
    (listed_moved c.self.inside.cancels.items c.self.inside.listed.scopes.items c.begin.new.self.scopes.items c.begin.ensures.moved c.self.invariant.listed.whole)

pub invariant_of-self : goal.invariant_of-self
invariant_of-self c =
    let nodes = c.self.inside.nodes.items in
    let links = c.self.inside.links.items in
    let cancels = c.self.inside.cancels.items in
    let added = subst (λ ts. IsAdded ts c.args.scope) (sym c.self.view_is) c.requires.added in
    let latest = subst (λ ts. IsLatest ts c.args.number) (sym c.self.view_is) c.requires.latest in
    let m = cancel_at c.args.number c.args.scope c.args.kind in
    let read = c.index-2.ensures ∙ kept_first_cancel nodes links cancels c.args.scope c.index-2.result.now added c.self.invariant.columns in
    let first = ap (is_at_or_before c.args.number) (sym read) ∙ sym c.is_at_or_before-is_cause.ensures ∙ c.if-is_cause.true in
    let spread = subst (λ ts. IsSpread (reached (outer_of ts) (own_of ts) c.args.scope 0) m cancels c.spread.new.cancels) (c.deref.ensures.value ∙ c.put_own.ensures)
    (subst (λ cs. IsSpread (reached (outer_of c.deref.result.now) (own_of c.deref.result.now) c.args.scope 0) m cs c.spread.new.cancels) c.deref_mut.ensures.value c.spread.ensures.spread) in
    let none = ap (λ t. t.own) (sym c.index.ensures) ∙ none_from_test _ (sym c.is_some.ensures ∙ c.if-is_some.false) in
    let kept = kept_cancel nodes links cancels c.args.scope c.args.number c.args.kind added c.self.invariant.columns c.index.result.now none latest first c.spread.new.cancels (c.spread.auto.cancels ∙ ap length c.deref_mut.ensures.value) spread in
    let back = written_back cancels c.spread.new.cancels c.self.inside.cancels.len (c.spread.auto.cancels ∙ c.deref_mut.ensures.len) in
    let listed = listed_cancel nodes links cancels c.args.scope c.args.number c.args.kind added c.self.invariant.columns c.index.result.now none latest c.self.inside.listed c.self.invariant.listed first
    c.begin.new.self c.spread.new.listed c.spread.new.cancels kept (c.spread.auto.cancels ∙ ap length c.deref_mut.ensures.value) c.begin.ensures.runs c.begin.ensures.moved c.begin.ensures.place c.begin.ensures.room c.begin.ensures.in_order
    c.spread.ensures.grown c.spread.ensures.whole in
    subst (λ ts. AreKept ts links (take c.self.inside.cancels.len (c.spread.new.cancels ++ drop (length c.spread.new.cancels) cancels)) c.spread.new.listed) (sym c.put_own.ensures)
    (subst (λ cs. AreKept (changed nodes c.args.scope (with_own m)) links cs c.spread.new.listed) (sym back) (record { columns = kept; listed = listed }))

pub invariant_of-self-else-is_cause : goal.invariant_of-self-else-is_cause
invariant_of-self-else-is_cause c =
    let nodes = c.self.inside.nodes.items in
    let none = ap (λ t. t.own) (sym c.index.ensures) ∙ none_from_test _ (sym c.is_some.ensures ∙ c.if-is_some.false) in
    let added = subst (λ ts. IsAdded ts c.args.scope) (sym c.self.view_is) c.requires.added in
    let read = c.index-2.ensures ∙ kept_first_cancel nodes c.self.inside.links.items c.self.inside.cancels.items c.args.scope c.index-2.result.now added c.self.invariant.columns in
    let after = ap (is_at_or_before c.args.number) (sym read) ∙ sym c.is_at_or_before-is_cause.ensures ∙ c.if-is_cause.false in
    let latest = subst (λ ts. IsLatest ts c.args.number) (sym c.self.view_is) c.requires.latest in
    subst (λ ts. AreKept ts c.self.inside.links.items c.self.inside.cancels.items c.self.inside.listed) (sym c.put_own.ensures)
    (record {
      columns = kept_later nodes c.self.inside.links.items c.self.inside.cancels.items c.args.scope c.args.number c.args.kind added c.self.invariant.columns c.index.result.now none latest after;
      listed = listed_later nodes c.self.inside.links.items c.self.inside.cancels.items c.args.scope c.args.number c.args.kind added c.self.invariant.columns c.index.result.now none latest c.self.inside.listed c.self.invariant.listed after;
    })

pub returns-then-is_cause : goal.returns-then-is_cause
returns-then-is_cause c = c.put_own.ensures ∙ ap (λ ts. changed ts c.args.scope (with_own (cancel_at c.args.number c.args.scope c.args.kind))) c.self.view_is

pub returns-else-is_cause : goal.returns-else-is_cause
returns-else-is_cause c = c.put_own.ensures ∙ ap (λ ts. changed ts c.args.scope (with_own (cancel_at c.args.number c.args.scope c.args.kind))) c.self.view_is
