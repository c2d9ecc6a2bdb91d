-- What is kept stays right when rows are changed.
use Rattle.std.proofs.Common.{[], ℕ, ◌++◌, ◌-◌, ◌<◌, ◌∙◌, ◌∷◌, ◌≡◌, ◌≢◌, ◌≤◌, Bool, List, None, Option, Some, ap, arith, cond, drop, false, get_or, inl, inr, is_some, leb, length, refl, set, slice_get, subst, suc, sym, take, true}
use Rattle.cancel_tree.specs.{AreColumns, CauseKind, FirstCancel, IsAdded, IsInward, IsLatest, IsLinked, IsSpread, Links, ScopeNode, cancel_at, cancel_of, chain_by, changed, first_cancel_by, is_at_or_before, option_and_then}
use Rattle.cancel_tree.specs.{option_map, option_or, outer, outer_of, own_of, parent_of, reached, row, with_deadline, with_own}
use Rattle.cancel_tree.proofs.Words.{cases_eq, eq-eqb, false≢true, leb-false, leb-true, ne_eqb, same_Some, slice_get-get_or}
use Rattle.cancel_tree.proofs.{FirstCancelLaws.cancel_bounded, FirstCancelLaws.cancel_put, FirstCancelLaws.cancel_stays, FirstCancelLaws.reached_cancel, RowLaws.altered_length, RowLaws.changed_same, RowLaws.changed_set}
use Rattle.cancel_tree.proofs.{RowLaws.field_at, RowLaws.field_kept, RowLaws.outer_inward, RowLaws.row_at, RowLaws.row_changed}

pub kept_from : (nodes new : List ScopeNode) (links : List Links) (cancels cancels_new : List (Option FirstCancel)) → length new ≡ length nodes → parent_of new ≡ parent_of nodes → outer_of new ≡ outer_of nodes → length cancels_new ≡ length cancels
    → ((s : ℕ) (c : FirstCancel) → own_of new s ≡ Some c → c.cause.scope ≡ s) → ((i : ℕ) → i < length nodes → slice_get cancels_new i ≡ Some (cancel_of new (suc i))) → AreColumns nodes links cancels → AreColumns new links cancels_new
kept_from nodes new links cancels cancels_new len parents outers columns named first_cancel kept = record {
  inward = subst IsInward (sym parents) kept.inward;
  rows = kept.rows ∙ sym len;
  columns = columns ∙ kept.columns ∙ sym len;
  linked = subst (λ f. IsLinked f links) (sym outers) kept.linked;
  levels = λ i l e. kept.levels i l e ∙ ap (λ f. length (chain_by f (suc i))) (sym parents);
  named = named;
  first_cancel = λ i lt. first_cancel i (omega arith);
}

module _ (nodes : List ScopeNode) (s : ℕ) (h : 1 ≤ s) where
  pub parents_kept : (f : ScopeNode → ScopeNode) → ((t : ScopeNode) → (f t).parent ≡ t.parent) → parent_of (changed nodes s f) ≡ parent_of nodes
  parents_kept f same = λ i t. field_kept (λ t. t.parent) f same nodes s t h i

  pub outers_kept : (f : ScopeNode → ScopeNode) → ((t : ScopeNode) → outer (f t) ≡ outer t) → outer_of (changed nodes s f) ≡ outer_of nodes
  outers_kept f same = λ i t. field_kept outer f same nodes s t h i

  pub kept_deadline : (d : Option ℕ) (links : List Links) (cancels : List (Option FirstCancel)) → AreColumns nodes links cancels → AreColumns (changed nodes s (with_deadline d)) links cancels
  kept_deadline d links cancels kept =
      let f : ScopeNode → ScopeNode = with_deadline d in
      let outers = outers_kept f (λ t. refl) in
      let owns : own_of (changed nodes s f) ≡ own_of nodes = λ i t. field_kept (λ t. t.own) f (λ t. refl) nodes s t h i in
      kept_from nodes (changed nodes s f) links cancels cancels (altered_length f nodes (s - 1)) (parents_kept f (λ t. refl)) outers refl
      (λ t c e. kept.named t c ((λ i. sym owns i t) ∙ e))
      (λ i lt. kept.first_cancel i lt ∙ (λ j. Some (first_cancel_by (sym outers j) (sym owns j) (suc i)))) kept

some_from_false : (n : ℕ) (o : Option FirstCancel) → is_at_or_before n o ≡ false → (c : FirstCancel) × (o ≡ Some c) × (c.place < n)
some_from_false n None e = absurd (false≢true (sym e))
some_from_false n (Some c) e = (c, refl, leb-false n c.place e)

not_before : (n : ℕ) (o : Option FirstCancel) → is_at_or_before n o ≡ true → (c : FirstCancel) → o ≡ Some c → n ≤ c.place
not_before n None e c at = absurd (let f : None ≡ Some c = at in cc)
not_before n (Some d) e c at = leb-true n c.place (subst (λ (x : FirstCancel). leb n x.place ≡ true) (same_Some d c at) e)

in_some : {A : Type 0} (b : Bool) (x y : A) → cond b (Some x) (Some y) ≡ Some (cond b x y)
in_some true x y = refl
in_some false x y = refl

module _ (nodes : List ScopeNode) (links : List Links) (cancels : List (Option FirstCancel)) (s n : ℕ) (kind : CauseKind) (added : IsAdded nodes s) (kept : AreColumns nodes links cancels) (d : ScopeNode) (none : (get_or nodes (s - 1) d).own ≡ None) (latest : IsLatest nodes n) where
  abbrev m : FirstCancel
  m = cancel_at n s kind

  abbrev f : ScopeNode → ScopeNode
  f = with_own m

  abbrev new : List ScopeNode
  new = changed nodes s f

  was : own_of nodes s ≡ None
  was = field_at (λ t. t.own) nodes s d added ∙ none

  pub now : own_of new s ≡ Some m
  now =
      ap (option_and_then (λ (t : ScopeNode). t.own)) (row_changed f nodes s s added.0)
      ∙ ap (λ b. option_and_then (λ (t : ScopeNode). t.own) (cond b (option_map f (row nodes s)) (row nodes s))) (eq-eqb s s refl)
      ∙ ap (λ r. option_and_then (λ (t : ScopeNode). t.own) (option_map f r)) (row_at nodes s d added)
      ∙ ap (λ o. option_or o (Some m)) none

  others : (t : ℕ) → t ≢ s → own_of new t ≡ own_of nodes t
  others t ne =
      ap (option_and_then (λ (t : ScopeNode). t.own)) (row_changed f nodes s t added.0)
      ∙ ap (λ b. option_and_then (λ (t : ScopeNode). t.own) (cond b (option_map f (row nodes t)) (row nodes t))) (ne_eqb t s ne)

  parents : parent_of new ≡ parent_of nodes
  parents = parents_kept nodes s added.0 f (λ t. refl)

  outers : outer_of new ≡ outer_of nodes
  outers = outers_kept nodes s added.0 f (λ t. refl)

  inward : IsInward (outer_of nodes)
  inward = outer_inward nodes kept.inward

  named : (t : ℕ) (c : FirstCancel) → own_of new t ≡ Some c → c.cause.scope ≡ t
  named t c e =
      elim (cases_eq t s) [
        | inl at ↦ ap (λ (x : FirstCancel). x.cause.scope) (same_Some c m (sym e ∙ ap (own_of new) at ∙ now)) ∙ sym at
        | inr ne ↦ kept.named t c (sym (others t ne) ∙ e)
      ]

  kept_by : (cancels_new : List (Option FirstCancel)) → length cancels_new ≡ length cancels → ((i : ℕ) → i < length nodes → slice_get cancels_new i ≡ Some (first_cancel_by (outer_of nodes) (own_of new) (suc i))) → AreColumns new links cancels_new
  kept_by cancels_new len put =
      kept_from nodes new links cancels cancels_new (altered_length f nodes (s - 1)) parents outers len named (λ i lt. put i lt ∙ (λ j. Some (first_cancel_by (sym outers j) (own_of new) (suc i)))) kept

  -- the cancels after a cancel that is not later than the cause
  pub cancels_put : is_at_or_before n (cancel_of nodes s) ≡ true → (t : ℕ) → 1 ≤ t → cancel_of new t ≡ cond (reached (outer_of nodes) (own_of new) s 0 t) (Some m) (cancel_of nodes t)
  cancels_put first t le = (λ j. first_cancel_by (outers j) (own_of new) t) ∙ cancel_put (outer_of nodes) inward (own_of nodes) (own_of new) s m added.0 was now others latest.own (not_before n (cancel_of nodes s) first) t le

  -- what such a cancel reaches had the first cancel of the scope, if any, and that is at its place
  pub cancel_replaced : is_at_or_before n (cancel_of nodes s) ≡ true → (t : ℕ) → 1 ≤ t → reached (outer_of nodes) (own_of new) s 0 t ≡ true → (c : FirstCancel) → cancel_of nodes t ≡ Some c → c.place ≡ n
  cancel_replaced first t le there c e =
      let before : n ≤ c.place = not_before n (cancel_of nodes s) first c (sym (reached_cancel (outer_of nodes) inward (own_of nodes) (own_of new) s m added.0 was now others t le there) ∙ e) in
      let after : c.place ≤ n = cancel_bounded (outer_of nodes) inward (own_of nodes) n latest.own t le c e in
      omega arith

  -- and one that is later leaves them
  pub cancels_later : is_at_or_before n (cancel_of nodes s) ≡ false → (t : ℕ) → 1 ≤ t → cancel_of new t ≡ cancel_of nodes t
  cancels_later after t le =
      let before = some_from_false n (cancel_of nodes s) after in
      (λ j. first_cancel_by (outers j) (own_of new) t) ∙ cancel_stays (outer_of nodes) inward (own_of nodes) (own_of new) s m added.0 was now others before.0 before.1 before.2 t le

  -- a cancel that comes after the cause leaves all cancels
  pub kept_later : is_at_or_before n (cancel_of nodes s) ≡ false → AreColumns new links cancels
  kept_later after =
      let before = some_from_false n (cancel_of nodes s) after in
      kept_by cancels refl (λ i lt. kept.first_cancel i lt
      ∙ ap Some (sym (cancel_stays (outer_of nodes) inward (own_of nodes) (own_of new) s m added.0 was now others before.0 before.1 before.2 (suc i) (omega arith))))

  -- and else it is put at what it reaches
  pub kept_cancel : is_at_or_before n (cancel_of nodes s) ≡ true → (cancels_new : List (Option FirstCancel)) → length cancels_new ≡ length cancels → IsSpread (reached (outer_of new) (own_of new) s 0) m cancels cancels_new → AreColumns new links cancels_new
  kept_cancel first cancels_new len put =
      kept_by cancels_new len (λ i lt. put i (omega (arith, kept.columns))
      ∙ (λ j. cond (reached (outers j) (own_of new) s 0 (suc i)) (Some (Some m)) (slice_get cancels i))
      ∙ ap (cond (reached (outer_of nodes) (own_of new) s 0 (suc i)) (Some (Some m))) (kept.first_cancel i lt)
      ∙ in_some (reached (outer_of nodes) (own_of new) s 0 (suc i)) (Some m) (cancel_of nodes (suc i))
      ∙ ap Some (sym (cancel_put (outer_of nodes) inward (own_of nodes) (own_of new) s m added.0 was now others latest.own (not_before n (cancel_of nodes s) first) (suc i) (omega arith))))

-- what the walk wrote back
pub written_back : {A : Type 0} (old new : List A) (n : ℕ) → length new ≡ n → take n (new ++ drop (length new) old) ≡ new
written_back old new n e = ap (λ k. take k (new ++ drop (length new) old)) (sym e) ∙ take_append new (drop (length new) old)
  where
    take_append : {A : Type 0} (xs ys : List A) → take (length xs) (xs ++ ys) ≡ xs
    take_append [] ys = refl
    take_append (x ∷ xs) ys = ap (λ zs. x ∷ zs) (take_append xs ys)

-- the kept first cancel of a scope
pub kept_first_cancel : (nodes : List ScopeNode) (links : List Links) (cancels : List (Option FirstCancel)) (s : ℕ) (d : Option FirstCancel) → IsAdded nodes s → AreColumns nodes links cancels → get_or cancels (s - 1) d ≡ cancel_of nodes s
kept_first_cancel nodes links cancels s d added kept =
    let lt : s - 1 < length nodes = omega (arith, added.0, added.1) in
    same_Some _ _ (sym (slice_get-get_or cancels (s - 1) d (omega (arith, kept.columns))) ∙ kept.first_cancel (s - 1) lt ∙ ap (λ t. Some (cancel_of nodes t)) (let e : suc (s - 1) ≡ s = omega (arith, added.0) in e))

-- the own cancel that is read
pub own_read : (nodes : List ScopeNode) (s : ℕ) (x : ScopeNode) → IsAdded nodes s → x ≡ get_or nodes (s - 1) x → x.own ≡ own_of nodes s
own_read nodes s x added at_x = ap (λ (t : ScopeNode). t.own) at_x ∙ sym (field_at (λ t. t.own) nodes s x added)

-- a first own cancel, written into the row
pub own_put : (nodes : List ScopeNode) (s : ℕ) (x : ScopeNode) (c : FirstCancel) → IsAdded nodes s → x ≡ get_or nodes (s - 1) x → own_of nodes s ≡ None → set nodes (s - 1) (record x { own = Some c }) ≡ changed nodes s (with_own c)
own_put nodes s x c added at_x none =
    let free : x.own ≡ None = own_read nodes s x added at_x ∙ none in
    changed_set (with_own c) nodes s x (record x { own = Some c }) added (sym (ap (λ o. let t : ScopeNode = record x { own = option_or o (Some c) } in t) free) ∙ ap (with_own c) at_x)

-- and leaves how many rows there are
pub rows_after : (nodes after : List ScopeNode) (s : ℕ) (c : FirstCancel) → after ≡ changed nodes s (with_own c) → length after ≡ length nodes
rows_after nodes after s c put = ap length put ∙ altered_length (with_own c) nodes (s - 1)

-- and which scope is outside which
pub outers_after : (now nodes after : List ScopeNode) (s : ℕ) (c : FirstCancel) → nodes ≡ now → IsAdded now s → after ≡ changed nodes s (with_own c) → outer_of after ≡ outer_of nodes
outers_after _ nodes after s c view added put = ap outer_of put ∙ outers_kept nodes s added.0 (with_own c) (λ t. refl)

-- an own cancel stays
pub own_stays : (nodes : List ScopeNode) (s : ℕ) (y : ScopeNode) (c : FirstCancel) → IsAdded nodes s → y ≡ get_or nodes (s - 1) y → is_some y.own ≡ true → nodes ≡ changed nodes s (with_own c)
own_stays nodes s y c added at_y some =
    changed_same (with_own c) nodes s y added (ap (with_own c) (sym at_y) ∙ ap (λ o. let t : ScopeNode = record y { own = o } in t) (by y.own some) ∙ at_y)
  where
    by : (o : Option FirstCancel) → is_some o ≡ true → option_or o (Some c) ≡ o
    by None e = absurd (false≢true e)
    by (Some o) e = refl

pub none_from_test : {A : Type 0} (o : Option A) → is_some o ≡ false → o ≡ None
none_from_test None e = refl
none_from_test (Some x) e = absurd (false≢true (sym e))
