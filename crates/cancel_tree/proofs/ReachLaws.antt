-- The laws of what a cancel reaches.
use Rattle.std.proofs.Common.{ℕ, ◌&&◌, ◌<◌, ◌||◌, ◌∙◌, ◌≡◌, ◌≢◌, ◌≤◌, Bool, None, Option, Some, ap, arith, cond, eqb, false, inl, inr, is_none, leb, refl, suc, sym, true, zero}
use Rattle.cancel_tree.specs.{FirstCancel, IsInward, chain_by, head_is, is_scope, last_inner, leads, onward, reached}
use Rattle.cancel_tree.proofs.Words.{along, cases_Bool, cases_eq, cases_lt, chain_law, eq-eqb, eqb-false, eqb-true, false≢true, le-leb, lt-leb, nat_tests, ne_eqb, same_Some}

-- what comes from outside: nothing, or what reaches the outer scope, if that is not s itself
abbrev pub from_outside : ℕ → ℕ → ℕ → (ℕ → Bool) → Option ℕ → Bool
from_outside s k t reach None = false
from_outside s k t reach (Some p) = cond (eqb p s) (leb k t) (reach p)

module _ (outer : ℕ → Option ℕ) (inward : IsInward outer) (own : ℕ → Option FirstCancel) where
  head_of_chain : (s p : ℕ) → 1 ≤ p → head_is s (chain_by outer p) ≡ eqb p s
  head_of_chain s p h = ap (head_is s) (chain_law outer inward p)

  pub reached_law : (s k t : ℕ) → 1 ≤ t → reached outer own s k t ≡ (eqb t s || (is_none (own t) && from_outside s k t (reached outer own s k) (outer t)))
  unfolding reached
  reached_law s k t h =
      ap (leads own s k) (chain_law outer inward t)
      ∙ ap (λ b. eqb t s || (is_none (own t) && b)) (elim (outer t) as (λ o. outer t ≡ o → cond (head_is s (onward o (chain_by outer))) (leb k t) (leads own s k (onward o (chain_by outer))) ≡ from_outside s k t (λ p. leads own s k (chain_by outer p)) o) [
        | None ↦ λ e. refl
        | Some p ↦ λ e. ap (λ b. cond b (leb k t) (leads own s k (chain_by outer p))) (head_of_chain s p (inward t p e).0)
      ] refl)

  pub reached_itself : (s k : ℕ) → 1 ≤ s → reached outer own s k s ≡ true
  reached_itself s k h = reached_law s k s h ∙ ap (λ b. b || (is_none (own s) && from_outside s k s (reached outer own s k) (outer s))) (eq-eqb s s refl)

  -- a scope with a lower number is not reached
  pub reached_above : (s k t : ℕ) → 1 ≤ t → t < s → reached outer own s k t ≡ false
  reached_above s k t h lt =
      along outer inward (λ u. u < s → reached outer own s k u ≡ false)
      (λ u h ih lt. reached_law s k u h
      ∙ ap (λ b. b || (is_none (own u) && from_outside s k u (reached outer own s k) (outer u))) (ne_eqb u s (λ e. omega arith))
      ∙ ap (λ b. is_none (own u) && b) (elim (outer u) as (λ o. outer u ≡ o → from_outside s k u (reached outer own s k) o ≡ false) [
        | None ↦ λ e. refl
        | Some p ↦ λ e. let i = inward u p e in ap (λ b. cond b (leb k u) (reached outer own s k p)) (ne_eqb p s (λ q. omega (arith, i.1))) ∙ ih p e (omega (arith, i.1))
      ] refl)
      ∙ and_false (is_none (own u)))
      t h lt
    where
      and_false : (b : Bool) → (b && false) ≡ false
      and_false true = refl
      and_false false = refl

  -- where no inner scope of s stands from j to k, the two reach the same
  pub reached_skip : (s j k : ℕ) → j ≤ k → ((c : ℕ) → j ≤ c → c < k → outer c ≢ Some s) → (t : ℕ) → 1 ≤ t → reached outer own s j t ≡ reached outer own s k t
  reached_skip s j k le none =
      along outer inward (λ t. reached outer own s j t ≡ reached outer own s k t)
      (λ t h ih. reached_law s j t h
      ∙ ap (λ b. eqb t s || (is_none (own t) && b)) (elim (outer t) as (λ o. outer t ≡ o → from_outside s j t (reached outer own s j) o ≡ from_outside s k t (reached outer own s k) o) [
        | None ↦ λ e. refl
        | Some p ↦ λ e. elim (cases_eq p s) [
          | inl q ↦ ap (λ b. cond (eqb p s) b (reached outer own s j p)) (same_test t (e ∙ ap Some q)) ∙ (let w : eqb p s ≡ true = eq-eqb p s q in ap (λ b. cond b (leb k t) (reached outer own s j p)) w ∙ sym (ap (λ b. cond b (leb k t) (reached outer own s k p)) w))
          | inr q ↦ (let w : eqb p s ≡ false = ne_eqb p s q in ap (λ b. cond b (leb j t) (reached outer own s j p)) w ∙ ih p e ∙ sym (ap (λ b. cond b (leb k t) (reached outer own s k p)) w))
        ]
      ] refl)
      ∙ sym (reached_law s k t h))
    where
      same_test : (t : ℕ) → outer t ≡ Some s → leb j t ≡ leb k t
      same_test t e = elim (cases_lt t j) [
        | inl l ↦ lt-leb j t l ∙ sym (lt-leb k t (omega arith))
        | inr g ↦ elim (cases_lt t k) [ inl l ↦ absurd (none t g l e) | inr m ↦ le-leb j t g ∙ sym (le-leb k t m) ]
      ]

  -- no inner scope of s has so great a number
  pub reached_start : (s n t : ℕ) → 1 ≤ t → t ≤ n → reached outer own s (suc n) t ≡ eqb t s
  reached_start s n t h le =
      along outer inward (λ u. u ≤ n → reached outer own s (suc n) u ≡ eqb u s)
      (λ u h ih le. reached_law s (suc n) u h ∙ ap (λ b. eqb u s || b) (rest u h le ih) ∙ or_false (eqb u s))
      t h le
    where
      or_false : (b : Bool) → (b || false) ≡ b
      or_false true = refl
      or_false false = refl

      and_false : (b : Bool) → (b && false) ≡ false
      and_false true = refl
      and_false false = refl

      rest : (u : ℕ) → 1 ≤ u → u ≤ n → ((p : ℕ) → outer u ≡ Some p → p ≤ n → reached outer own s (suc n) p ≡ eqb p s) → (is_none (own u) && from_outside s (suc n) u (reached outer own s (suc n)) (outer u)) ≡ false
      rest u h le ih =
          ap (λ b. is_none (own u) && b) (elim (outer u) as (λ o. outer u ≡ o → from_outside s (suc n) u (reached outer own s (suc n)) o ≡ false) [
            | None ↦ λ e. refl
            | Some p ↦ λ e. ap (λ b. cond (eqb p s) b (reached outer own s (suc n) p)) (lt-leb (suc n) u (omega arith)) ∙ ap (λ b. cond (eqb p s) false b) (ih p e (let i = inward u p e in omega (arith, i.1))) ∙ cond_same (eqb p s)
          ] refl)
          ∙ and_false (is_none (own u))
        where
          cond_same : (b : Bool) → cond b false b ≡ false
          cond_same true = refl
          cond_same false = refl

-- ---- one more inner scope

and_false : (b : Bool) → (b && false) ≡ false
and_false true = refl
and_false false = refl

none_left : (n m : Bool) → (n && false) ≡ ((n && false) || (m && (n && false)))
none_left true true = refl
none_left true false = refl
none_left false true = refl
none_left false false = refl

past : (n m x : Bool) → (n && x) ≡ ((n && x) || (m && (n && false)))
past true true true = refl
past true true false = refl
past true false true = refl
past true false false = refl
past false true x = refl
past false false x = refl

here : (n : Bool) → (n && true) ≡ ((n && false) || (n && true))
here true = refl
here false = refl

farther : (n x m y : Bool) → (n && (x || (m && y))) ≡ ((n && x) || (m && (n && y)))
farther true x m y = refl
farther false x true y = refl
farther false x false y = refl

module _ (outer : ℕ → Option ℕ) (inward : IsInward outer) (own : ℕ → Option FirstCancel) (s c : ℕ) (is : outer c ≡ Some s) where
  abbrev R : ℕ → ℕ → Bool
  R k t = reached outer own s k t

  abbrev C : ℕ → Bool
  C t = reached outer own c 0 t

  abbrev m : Bool
  m = is_none (own c)

  s_is : 1 ≤ s
  s_is = (inward c s is).0

  c_above : s < c
  c_above = (inward c s is).1

  -- an inner scope of s
  step_inner : (t : ℕ) → 1 ≤ t → (is_none (own t) && leb c t) ≡ ((is_none (own t) && leb (suc c) t) || (m && (eqb t c || (is_none (own t) && cond (eqb s c) (leb 0 t) (C s)))))
  step_inner t h =
      let no : cond (eqb s c) (leb 0 t) (C s) ≡ false = ap (λ b. cond b (leb 0 t) (C s)) (ne_eqb s c (λ e. omega (arith, c_above))) ∙ reached_above outer inward own c 0 s s_is c_above in
      ap (λ b. is_none (own t) && b) refl
      ∙ elim (cases_eq t c) [
        | inl e ↦ (let a : leb c t ≡ true = le-leb c t (omega arith) in
            let b : leb (suc c) t ≡ false = lt-leb (suc c) t (omega arith) in
            let d : eqb t c ≡ true = eq-eqb t c e in
            ap (λ x. is_none (own t) && x) a ∙ here (is_none (own t))
            ∙ (λ i. (is_none (own t) && sym b i) || (ap (λ u. is_none (own u)) e i && (sym d i || (is_none (own t) && cond (eqb s c) (leb 0 t) (C s))))))
        | inr ne ↦ (let a : leb c t ≡ leb (suc c) t = grind (arith, nat_tests) in
            let d : eqb t c ≡ false = ne_eqb t c ne in
            ap (λ x. is_none (own t) && x) a ∙ past (is_none (own t)) m (leb (suc c) t)
            ∙ (λ i. (is_none (own t) && leb (suc c) t) || (m && (sym d i || (is_none (own t) && sym no i)))))
      ]

  -- a scope farther in
  step_farther : (t p : ℕ) → outer t ≡ Some p → p ≢ s → R c p ≡ (R (suc c) p || (m && C p))
      → (is_none (own t) && R c p) ≡ ((is_none (own t) && R (suc c) p) || (m && (eqb t c || (is_none (own t) && cond (eqb p c) (leb 0 t) (C p)))))
  step_farther t p at ne ih =
      let d : eqb t c ≡ false = ne_eqb t c (λ e. ne (same_Some p s (sym at ∙ ap outer e ∙ is))) in
      let f : cond (eqb p c) (leb 0 t) (C p) ≡ C p = elim (cases_eq p c) [
        | inl e ↦ ap (λ b. cond b (leb 0 t) (C p)) (eq-eqb p c e) ∙ le-leb 0 t (omega arith) ∙ sym (ap C e ∙ reached_itself outer inward own c 0 (omega (arith, c_above)))
        | inr n ↦ ap (λ b. cond b (leb 0 t) (C p)) (ne_eqb p c n)
      ] in
      ap (λ x. is_none (own t) && x) ih ∙ farther (is_none (own t)) (R (suc c) p) m (C p)
      ∙ (λ i. (is_none (own t) && R (suc c) p) || (m && (sym d i || (is_none (own t) && sym f i))))

  step_outside : (t : ℕ) → 1 ≤ t → (o : Option ℕ) → outer t ≡ o → ((p : ℕ) → outer t ≡ Some p → R c p ≡ (R (suc c) p || (m && C p)))
      → (is_none (own t) && from_outside s c t (R c) o) ≡ ((is_none (own t) && from_outside s (suc c) t (R (suc c)) o) || (m && (eqb t c || (is_none (own t) && from_outside c 0 t C o))))
  step_outside t h None at ih =
      let d : eqb t c ≡ false = ne_eqb t c (λ e. absurd (let f : None ≡ Some s = sym at ∙ ap outer e ∙ is in cc)) in
      none_left (is_none (own t)) m ∙ (λ i. (is_none (own t) && false) || (m && (sym d i || (is_none (own t) && false))))
  step_outside t h (Some p) at ih =
      elim (cases_eq p s) [
        | inl e ↦ (let w : eqb p s ≡ true = eq-eqb p s e in
            (λ i. is_none (own t) && cond (w i) (leb c t) (R c p)) ∙ step_inner t h
            ∙ (λ i. (is_none (own t) && cond (sym w i) (leb (suc c) t) (R (suc c) p)) || (m && (eqb t c || (is_none (own t) && cond (eqb (sym e i) c) (leb 0 t) (C (sym e i)))))))
        | inr ne ↦ (let w : eqb p s ≡ false = ne_eqb p s ne in
            (λ i. is_none (own t) && cond (w i) (leb c t) (R c p)) ∙ step_farther t p at ne (ih p at)
            ∙ (λ i. (is_none (own t) && cond (sym w i) (leb (suc c) t) (R (suc c) p)) || (m && (eqb t c || (is_none (own t) && cond (eqb p c) (leb 0 t) (C p))))))
      ]

  -- by way of the inner scopes from c on: by way of those after it, or of c itself if it has no own cancel
  pub reached_step : (t : ℕ) → 1 ≤ t → R c t ≡ (R (suc c) t || (m && C t))
  reached_step =
      along outer inward (λ t. R c t ≡ (R (suc c) t || (m && C t)))
      (λ t h ih. reached_law outer inward own s c t h
      ∙ elim (cases_Bool (eqb t s)) [
        | inl w ↦ (λ i. w i || (is_none (own t) && from_outside s c t (R c) (outer t)))
            ∙ (λ i. (sym w i || (is_none (own t) && from_outside s (suc c) t (R (suc c)) (outer t))) || (m && (eqb t c || (is_none (own t) && from_outside c 0 t C (outer t)))))
        | inr w ↦ (λ i. w i || (is_none (own t) && from_outside s c t (R c) (outer t)))
            ∙ step_outside t h (outer t) refl ih
            ∙ (λ i. (sym w i || (is_none (own t) && from_outside s (suc c) t (R (suc c)) (outer t))) || (m && (eqb t c || (is_none (own t) && from_outside c 0 t C (outer t)))))
      ]
      ∙ (λ i. sym (reached_law outer inward own s (suc c) t h) i || (m && sym (reached_law outer inward own c 0 t h) i)))

-- ---- the last inner scope

scope_is : (o : Option ℕ) (s : ℕ) → is_scope o s ≡ true → o ≡ Some s
scope_is None s e = absurd (false≢true e)
scope_is (Some p) s e = ap Some (eqb-true p s e)

scope_is_not : (o : Option ℕ) (s : ℕ) → is_scope o s ≡ false → o ≢ Some s
scope_is_not None s e f = absurd (let g : None ≡ Some s = f in cc)
scope_is_not (Some p) s e f = eqb-false p s e (same_Some p s f)

pub last_inner_found : (outer : ℕ → Option ℕ) (s n c : ℕ) → last_inner outer s n ≡ Some c → (outer c ≡ Some s) × (1 ≤ c) × (c ≤ n)
last_inner_found outer s zero c e = absurd (let f : None ≡ Some c = e in cc)
last_inner_found outer s (suc n) c e =
    elim (cases_Bool (is_scope (outer (suc n)) s)) [
      | inl w ↦ (let is : suc n ≡ c = same_Some (suc n) c (sym (ap (λ b. cond b (Some (suc n)) (last_inner outer s n)) w) ∙ e) in
          (ap outer (sym is) ∙ scope_is (outer (suc n)) s w, omega arith, omega arith))
      | inr w ↦ (let f = last_inner_found outer s n c (sym (ap (λ b. cond b (Some (suc n)) (last_inner outer s n)) w) ∙ e) in (f.0, f.1, omega (arith, f.2)))
    ]

abbrev pub place : Option ℕ → ℕ
place None = 0
place (Some c) = c

-- none is later
pub last_inner_after : (outer : ℕ → Option ℕ) (s n c : ℕ) → place (last_inner outer s n) < c → c ≤ n → outer c ≢ Some s
last_inner_after outer s zero c h k e = absurd (omega arith)
last_inner_after outer s (suc n) c h k e =
    elim (cases_Bool (is_scope (outer (suc n)) s)) [
      | inl w ↦ absurd (let f : place (last_inner outer s (suc n)) ≡ suc n = ap (λ b. place (cond b (Some (suc n)) (last_inner outer s n))) w in omega arith)
      | inr w ↦ (let f : place (last_inner outer s (suc n)) ≡ place (last_inner outer s n) = ap (λ b. place (cond b (Some (suc n)) (last_inner outer s n))) w in
          elim (cases_eq c (suc n)) [
            | inl q ↦ scope_is_not (outer (suc n)) s w (ap outer (sym q) ∙ e)
            | inr q ↦ last_inner_after outer s n c (omega arith) (omega arith) e
          ])
    ]

place_below : (n : ℕ) (o : Option ℕ) → ((c : ℕ) → o ≡ Some c → c ≤ n) → place o ≤ n
place_below n None h = omega arith
place_below n (Some c) h = h c refl

pub last_inner_place : (outer : ℕ → Option ℕ) (s n : ℕ) → place (last_inner outer s n) ≤ n
last_inner_place outer s n = place_below n (last_inner outer s n) (λ c e. (last_inner_found outer s n c e).2)
