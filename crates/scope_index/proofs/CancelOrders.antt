-- The scopes in order of their cancellation are the history's.
use Rattle.std.proofs.Common.{ℕ, ◌+◌, ◌-◌, ◌<◌, ◌∙◌, ◌≡◌, ◌≤◌, All, Contains, List, None, Option, Some, ap, arith, false, get_or, inl, inr, is_some, length, map, max, option_map, refl, subst, suc, sym, true, zero}
use Rattle.scope_index.specs.{AreCancelsOf, CancelTable, FirstCancel, History, IsBefore, IsCancelOrder, IsCancelOrderOf, Legal, Limits, Opening, OwnCancel, ScopeNode, cancel_of, cancelled_at, chain_by, earliest_on, first_cancel}
use Rattle.scope_index.specs.{first_cancel_by, is_cancelled, nearer, onward, opened_of, opening, option_and_then, outer_of, outwards, own, own_cancel, own_of, shifted}
use Rattle.scope_index.proofs.Words.{Contains-get_or, cases_lt, false≢true, get_or-map, length-map, opened_after, own_unopened, slice_get_past}
use Rattle.scope_index.proofs.CancelReadings.{cancel_read, cancelled_read, outer_unopened, unopened}
use Rattle.scope_rules.specs.Scopes as rules
use Rattle.cancel_tree.specs.Rows as rows

-- a scope with no scope outside and no own cancel has no first cancel
no_first_cancel : (outer : ℕ → Option ℕ) (own : ℕ → Option FirstCancel) (s : ℕ) → outer s ≡ None → own s ≡ None → first_cancel_by outer own s ≡ None
unfolding first_cancel_by chain_by
no_first_cancel outer own s no_outer no_own = λ i. nearer (no_own i) (earliest_on own (onward (no_outer i) (outwards outer s)))

-- a scope that was not opened is not cancelled
unopened_live : (h : History) (s : ℕ) → opening h s ≡ None → is_cancelled h s ≡ false
unfolding is_cancelled first_cancel
unopened_live h s none =
    ap is_some (no_first_cancel (rules.outer h) (own_cancel h) s (outer_unopened h s none)
    (ap (option_map (λ (w : OwnCancel). rows.cancel_at w.place s w.kind)) (own_unopened h s (own h s) none refl)))

-- a cancelled scope has a number after those of the base
cancelled_after : (h : History) (s : ℕ) → is_cancelled h s ≡ true → h.base.scopes < s
cancelled_after h s is = by (opening h s) refl
  where
    by : (o : Option Opening) → opening h s ≡ o → h.base.scopes < s
    by None none = absurd (false≢true (sym (unopened_live h s none) ∙ is))
    by (Some o) at = let number = opened_after h s o at in omega (arith, number.2)

-- the place at which a scope became cancelled
moment_read : (L : Limits) (h : History) (t : CancelTable) (n : ℕ) → Legal L h → AreCancelsOf h t → cancelled_at h (t.before + n) ≡ rows.cancelled_at t.nodes n
unfolding cancelled_at
moment_read L h t n legal was =
    ap (λ k. option_and_then (λ (o : Opening). option_map (λ (c : FirstCancel). max o.place c.place) k) (opening h (t.before + n))) (cancel_read L h t n legal was)
    ∙ by (rows.row t.nodes n) refl
  where
    places : (o : ℕ) (k : Option FirstCancel) → option_map (λ (c : FirstCancel). max o c.place) (option_map (shifted t.before) k) ≡ option_map (λ (c : FirstCancel). max o c.place) k
    places o None = refl
    places o (Some c) = refl

    by : (r : Option ScopeNode) → rows.row t.nodes n ≡ r
        → option_and_then (λ (o : Opening). option_map (λ (c : FirstCancel). max o.place c.place) (option_map (shifted t.before) (cancel_of t.nodes n))) (opening h (t.before + n)) ≡ option_and_then (λ m. option_map (λ (c : FirstCancel). max m c.place) (cancel_of t.nodes n)) (option_map (λ (x : ScopeNode). x.opened) r)
    by None none = ap (option_and_then (λ (o : Opening). option_map (λ (c : FirstCancel). max o.place c.place) (option_map (shifted t.before) (cancel_of t.nodes n)))) (unopened h t n was none)
    by (Some row) at =
        let there = was.rows n row at in
        ap (option_and_then (λ (o : Opening). option_map (λ (c : FirstCancel). max o.place c.place) (option_map (shifted t.before) (cancel_of t.nodes n)))) there.is
        ∙ places there.opened.place (cancel_of t.nodes n) ∙ ap (λ m. option_map (λ (c : FirstCancel). max m c.place) (cancel_of t.nodes n)) there.place

in_map : (f : ℕ → ℕ) (xs : List ℕ) (m : ℕ) → Contains xs m → Contains (map f xs) (f m)
in_map f xs m (k, lt, e) = (k, (let l : length (map f xs) ≡ length xs = length-map _ _ in omega arith), get_or-map f xs k m (f m) lt ∙ ap f e)

from_map : (f : ℕ → ℕ) (xs : List ℕ) (s : ℕ) → Contains (map f xs) s → (m : ℕ) × Contains xs m × (f m ≡ s)
from_map f xs s (k, lt, e) =
    let within : k < length xs = (let l : length (map f xs) ≡ length xs = length-map _ _ in omega arith) in
    (get_or xs k 0, Contains-get_or xs k 0 within, sym (get_or-map f xs k 0 s within) ∙ e)

-- the list of the rows is that of their scopes
pub order_read : (L : Limits) (h : History) (t : CancelTable) (list : List ℕ) → Legal L h → AreCancelsOf h t → IsCancelOrder t.nodes list → IsCancelOrderOf h (map (λ n. t.before + n) list)
order_read L h t list legal was order = record {
  all = λ s is.
      let after = cancelled_after h s is in
      let number : t.before + (s - t.before) ≡ s = omega (arith, after, was.numbered) in
      subst (Contains (map f list)) number (in_map f list (s - t.before) (order.all (s - t.before) (sym (cancelled_read L h t (s - t.before) legal was) ∙ ap (is_cancelled h) number ∙ is)));
  only = λ s has.
      let there = from_map f list s has in
      sym (ap (is_cancelled h) there.2) ∙ cancelled_read L h t there.0 legal was ∙ order.only there.0 there.1;
  ascends = λ i j d lt l.
      let within : j < length list = (let e : length (map f list) ≡ length list = length-map _ _ in omega (arith, l)) in
      let earlier = order.ascends i j 0 lt within in
      subst (λ x. IsBefore (cancelled_at h) x (get_or (map f list) j d)) (sym (get_or-map f list i 0 d (omega (arith, lt, within))))
      (subst (IsBefore (cancelled_at h) (f (get_or list i 0))) (sym (get_or-map f list j 0 d within)) (record {
        first = earlier.first;
        then = earlier.then;
        is_first = moment_read L h t (get_or list i 0) legal was ∙ earlier.is_first;
        is_then = moment_read L h t (get_or list j 0) legal was ∙ earlier.is_then;
        not_later = earlier.not_later;
        by_number = λ e. let below = earlier.by_number e in omega arith;
      }));
}
  where
    f : ℕ → ℕ
    f n = t.before + n

-- each row of the list is one of the table's
pub listed_within : (nodes : List ScopeNode) (list : List ℕ) → IsCancelOrder nodes list → All (λ n. n ≤ length nodes) list
listed_within nodes list order i d lt =
    let n : ℕ = get_or list i d in
    by n (rows.row nodes n) refl (order.only n (Contains-get_or list i d lt))
  where
    row_past : (nodes : List ScopeNode) (n : ℕ) → length nodes < n → rows.row nodes n ≡ None
    row_past nodes zero lt = refl
    row_past nodes (suc i) lt = slice_get_past nodes i (omega (arith, lt))

    by : (n : ℕ) (r : Option ScopeNode) → rows.row nodes n ≡ r → is_some (cancel_of nodes n) ≡ true → n ≤ length nodes
    by n r at is =
        elim (cases_lt (length nodes) n) [
          | inl past ↦ (let none = row_past nodes n past in
              absurd (false≢true (sym (ap is_some (no_first_cancel (outer_of nodes) (own_of nodes) n (ap (option_and_then rows.outer) none) (ap (option_and_then (λ (x : ScopeNode). x.own)) none))) ∙ is)))
          | inr le ↦ le
        ]
