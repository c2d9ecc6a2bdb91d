-- Each turn leaves the first cancel at what is reached by way of the inner scopes so far.
use Rattle.std.proofs.Common.{ℕ, ◌-◌, ◌<◌, ◌∙◌, ◌≡◌, Bool, List, None, Option, ap, arith, false, get_or, is_none, is_some, length, not, slice_get, subst, sym, true}
use Rattle.cancel_tree.specs.{FirstCancel, IsAdded, Links, ScopeNode, last_inner, outer_of, own_of}
use Rattle.cancel_tree.proofs.Words.{length-set}
use Rattle.cancel_tree.proofs.{ListLaws.grown_twice, RowLaws.field_at, SpreadLaws.IsListedSoFar, SpreadLaws.IsSpreadUpTo, SpreadLaws.fewer, SpreadLaws.first_link, SpreadLaws.next_falls, SpreadLaws.next_link}
use Rattle.cancel_tree.proofs.{SpreadLaws.spread_inner, SpreadLaws.spread_past, SpreadLaws.spread_start, spread.+spread.Goals.else-is_none, spread.+spread.Goals.then-is_none}
use Rattle.cancel_tree.proofs.spread.+spread.Goals as goal

abbrev no_links : Links
no_links = record { level = 0; first_inner = None; next_inner = None }

pub loop-next-init : goal.loop-next-init
loop-next-init t c =
    let r = c.requires in
    let nodes = c.args.nodes.now in
    let following : Option ℕ = (get_or c.args.links.now (c.args.scope - 1) no_links).first_inner in (
      subst (IsSpreadUpTo (outer_of nodes) (own_of nodes) c.args.scope following c.args.first_cancel c.args.cancels.now) (sym c.put.ensures.put)
          (spread_start (outer_of nodes) r.inward (own_of nodes) c.args.scope c.args.first_cancel c.args.cancels.now following
          (first_link (outer_of nodes) c.args.links.now no_links c.args.scope r.linked r.added.0 (omega (arith, r.added.1, r.rows)) ∙ ap (last_inner (outer_of nodes) c.args.scope) (r.rows ∙ sym r.columns))
          r.added.0 (omega (arith, r.added.1, r.columns))),
      record { whole = c.put.ensures.whole; grown = c.put.ensures.grown },
    )

pub spread-requires : goal.spread-requires
spread-requires t c =
    let r = c.requires in
    let nodes = c.args.nodes.now in
    let done = c.loop-next.invariant.0 in
    let so_far = c.loop-next.invariant.1 in
    let within = done.within c.in-Some.inner c.in-Some.is in
    let inward = r.inward c.in-Some.inner c.args.scope (done.inner c.in-Some.inner c.in-Some.is) in
    let measure : length nodes - c.args.scope ≡ t = c.decreases in
    let columns : length c.loop-next.cancels ≡ length c.args.cancels.now = c.loop-next.auto.cancels ∙ ap length c.put.ensures.put ∙ length-set _ _ _ in (
      subst (λ m. length nodes - c.in-Some.inner < m) measure (fewer (length nodes) c.args.scope c.in-Some.inner inward.1 (omega (arith, within.1, r.columns))),
      ((within.0, omega (arith, within.1, r.columns)), (r.rows, (columns ∙ r.columns, (r.inward, (r.linked, (so_far.whole, omega (arith, columns, r.room, so_far.grown.room))))))),
    )

pub loop-next-smaller : goal.loop-next-smaller
loop-next-smaller t c =
    let r = c.requires in
    let nodes = c.args.nodes.now in
    let inner = c.in-Some.inner in
    let within = c.loop-next.invariant.0.within inner c.in-Some.is in
    next_falls (outer_of nodes) c.args.scope inner _ c.loop-next.next
    (next_link (outer_of nodes) c.args.links.now no_links inner c.args.scope r.linked within.0 (omega (arith, within.1, r.columns, r.rows)) (c.loop-next.invariant.0.inner inner c.in-Some.is))
    c.in-Some.is within.0

none_test : (nodes : List ScopeNode) (c : ℕ) (d : ScopeNode) (b : Bool) → IsAdded nodes c → is_some (get_or nodes (c - 1) d).own ≡ not b → is_none (own_of nodes c) ≡ b
none_test nodes c d b h e = ap is_none (field_at (λ t. t.own) nodes c d h) ∙ by (get_or nodes (c - 1) d).own b e
  where
    by : (o : Option FirstCancel) (b : Bool) → is_some o ≡ not b → is_none o ≡ b
    by o true e = ap not e
    by o false e = ap not e

abbrev no_told : ScopeNode
no_told = record { parent = None; shield = false; opened = 0; own = None; deadline = None }

pub loop-next-preserved : goal.loop-next-preserved
loop-next-preserved t c =
    let r = c.requires in
    let nodes = c.args.nodes.now in
    let done = c.loop-next.invariant.0 in
    let so_far = c.loop-next.invariant.1 in
    let inner = c.in-Some.inner in
    let within = done.within inner c.in-Some.is in
    let next = next_link (outer_of nodes) c.args.links.now no_links inner c.args.scope r.linked within.0 (omega (arith, within.1, r.columns, r.rows)) (done.inner inner c.in-Some.is) in
    let added : IsAdded nodes inner = (within.0, omega (arith, within.1, r.columns)) in
    let here = subst (λ o. IsSpreadUpTo (outer_of nodes) (own_of nodes) c.args.scope o c.args.first_cancel c.args.cancels.now c.loop-next.cancels) c.in-Some.is done in
    let following : Option ℕ = (get_or c.args.links.now (inner - 1) no_links).next_inner in
    let columns : length c.loop-next.cancels ≡ length c.args.cancels.now = c.loop-next.auto.cancels ∙ ap length c.put.ensures.put ∙ length-set _ _ _ in
    elim c.if-is_none.branch [
      | then-is_none w ↦ (
        spread_inner (outer_of nodes) r.inward (own_of nodes) c.args.scope inner c.args.first_cancel c.args.cancels.now following next c.loop-next.cancels c.if-is_none.cancels
            columns (none_test nodes inner no_told true added (c.is_none.ensures ∙ ap not w.if-is_none.true)) here
            (λ i lt. ap (λ cs. slice_get cs i) w.cancels-is ∙ w.spread.ensures.spread i lt),
        subst (λ cs. IsListedSoFar cs c.args.listed.now c.if-is_none.listed) (sym w.cancels-is) (subst (IsListedSoFar w.spread.new.cancels c.args.listed.now) (sym w.listed-is)
            (record { whole = w.spread.ensures.whole; grown = grown_twice c.args.listed.now c.loop-next.listed w.spread.new.listed so_far.grown w.spread.ensures.grown })),
      )
      | else-is_none w ↦ (
        subst (λ cs. IsSpreadUpTo (outer_of nodes) (own_of nodes) c.args.scope following c.args.first_cancel c.args.cancels.now cs) (sym w.cancels-is)
            (spread_past (outer_of nodes) r.inward (own_of nodes) c.args.scope inner c.args.first_cancel c.args.cancels.now following next c.loop-next.cancels (none_test nodes inner no_told false added (c.is_none.ensures ∙ ap not w.if-is_none.false)) here),
        subst (λ cs. IsListedSoFar cs c.args.listed.now c.if-is_none.listed) (sym w.cancels-is) (subst (IsListedSoFar c.loop-next.cancels c.args.listed.now) (sym w.listed-is) so_far),
      )
    ]
