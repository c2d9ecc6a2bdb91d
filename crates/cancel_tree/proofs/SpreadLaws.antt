-- What each turn of the walk over the scopes inside a scope leaves.
use Rattle.std.proofs.Common.{[], ℕ, ◌&&◌, ◌-◌, ◌<◌, ◌||◌, ◌∙◌, ◌∷◌, ◌≡◌, ◌≢◌, ◌≤◌, Bool, List, None, Option, Some, ap, arith, cond, eqb, false, get_or, is_none, length, refl, set, slice_get, suc, sym, true, zero}
use Rattle.cancel_tree.specs.{FirstCancel, IsGrown, IsInward, IsLinked, IsListOf, IsSpread, Links, Words.CancelOrder, last_inner, reached}
use Rattle.cancel_tree.proofs.Words.{nat_tests, ne_eqb, slice_get-get_or}
use Rattle.cancel_tree.proofs.ReachLaws.{last_inner_after, last_inner_found, last_inner_place, place, reached_skip, reached_start, reached_step}

-- the number from which on the inner scopes were visited
abbrev pub bound : Option ℕ → ℕ
bound None = 0
bound (Some c) = suc c

-- the first cancel was put at s and by way of its inner scopes above `next`, which is one of them
pub record IsSpreadUpTo (outer : ℕ → Option ℕ) (own : ℕ → Option FirstCancel) (s : ℕ) (next : Option ℕ) (first_cancel : FirstCancel) (old new : List (Option FirstCancel)) : Type 0 where
  pub spread : IsSpread (reached outer own s (bound next)) first_cancel old new
  pub inner : (c : ℕ) → next ≡ Some c → outer c ≡ Some s
  pub within : (c : ℕ) → next ≡ Some c → (1 ≤ c) × (c ≤ length old)

-- what has a first cancel is listed, and more are listed than at the start
pub record IsListedSoFar (cancels : List (Option FirstCancel)) (old new : CancelOrder) : Type 0 where
  pub whole : IsListOf cancels new.scopes.items
  pub grown : IsGrown old new

eqb_suc : (i j : ℕ) → eqb (suc i) (suc j) ≡ eqb i j
eqb_suc i j = grind (arith, nat_tests)

eqb_back : (i s : ℕ) → 1 ≤ s → eqb i (s - 1) ≡ eqb (suc i) s
eqb_back i s h = grind (arith, nat_tests)

pub slice_get-set : {X : Type 0} (xs : List X) (j i : ℕ) (v : X) → j < length xs → slice_get (set xs j v) i ≡ cond (eqb i j) (Some v) (slice_get xs i)
slice_get-set [] j i v h = absurd (omega arith)
slice_get-set (x ∷ xs) zero zero v h = refl
slice_get-set (x ∷ xs) zero (suc i) v h = ap (λ b. cond b (Some v) (slice_get xs i)) (sym (ne_eqb (suc i) 0 (λ e. omega arith)))
slice_get-set (x ∷ xs) (suc j) zero v h = ap (λ b. cond b (Some v) (Some x)) (sym (ne_eqb 0 (suc j) (λ e. omega arith)))
slice_get-set (x ∷ xs) (suc j) (suc i) v h = slice_get-set xs j i v (omega arith) ∙ ap (λ b. cond b (Some v) (slice_get xs i)) (sym (eqb_suc i j))

-- ---- the links

pub first_link : (outer : ℕ → Option ℕ) (links : List Links) (d : Links) (s : ℕ) → IsLinked outer links → 1 ≤ s → s ≤ length links → (get_or links (s - 1) d).first_inner ≡ last_inner outer s (length links)
first_link outer links d s linked h k =
    linked.first (s - 1) (get_or links (s - 1) d) (slice_get-get_or links (s - 1) d (omega arith)) ∙ ap (λ u. last_inner outer u (length links)) (let e : suc (s - 1) ≡ s = omega arith in e)

pub next_link : (outer : ℕ → Option ℕ) (links : List Links) (d : Links) (c s : ℕ) → IsLinked outer links → 1 ≤ c → c ≤ length links → outer c ≡ Some s → (get_or links (c - 1) d).next_inner ≡ last_inner outer s (c - 1)
next_link outer links d c s linked h k is =
    linked.next (c - 1) (get_or links (c - 1) d) s (slice_get-get_or links (c - 1) d (omega arith)) (ap outer (let e : suc (c - 1) ≡ c = omega arith in e) ∙ is)

or_false : (b : Bool) → (b || false) ≡ b
or_false true = refl
or_false false = refl

twice : {A : Type 0} (a b : Bool) (x y : A) → cond b x (cond a x y) ≡ cond (a || b) x y
twice true true x y = refl
twice true false x y = refl
twice false b x y = refl

module _ (outer : ℕ → Option ℕ) (inward : IsInward outer) (own : ℕ → Option FirstCancel) where
  none_from : (s n : ℕ) (o : Option ℕ) → last_inner outer s n ≡ o → (c : ℕ) → bound o ≤ c → c < suc n → outer c ≢ Some s
  none_from s n None at zero h k e = absurd (let i = inward 0 s e in omega (arith, i.1))
  none_from s n None at (suc c) h k e = last_inner_after outer s n (suc c) (let p : place (last_inner outer s n) ≡ 0 = ap place at in omega arith) (omega arith) e
  none_from s n (Some d) at c h k e = last_inner_after outer s n c (let p : place (last_inner outer s n) ≡ d = ap place at in omega arith) (omega arith) e

  bound_within : (s n : ℕ) (o : Option ℕ) → last_inner outer s n ≡ o → bound o ≤ suc n
  bound_within s n None at = omega arith
  bound_within s n (Some d) at = let f = last_inner_found outer s n d at in omega (arith, f.2)

  -- no inner scope of s stands above the last one
  skip_to : (s n : ℕ) (next : Option ℕ) → next ≡ last_inner outer s n → (t : ℕ) → 1 ≤ t → reached outer own s (bound next) t ≡ reached outer own s (suc n) t
  skip_to s n next is = reached_skip outer inward own s (bound next) (suc n) (bound_within s n next (sym is)) (none_from s n next (sym is))

  pub spread_start : (s : ℕ) (first_cancel : FirstCancel) (old : List (Option FirstCancel)) (next : Option ℕ) → next ≡ last_inner outer s (length old) → 1 ≤ s → s ≤ length old
      → IsSpreadUpTo outer own s next first_cancel old (set old (s - 1) (Some first_cancel))
  spread_start s first_cancel old next is h k = record {
    spread = λ i lt. slice_get-set old (s - 1) i (Some first_cancel) (omega arith)
        ∙ ap (λ b. cond b (Some (Some first_cancel)) (slice_get old i))
        (eqb_back i s h ∙ sym (skip_to s (length old) next is (suc i) (omega arith) ∙ reached_start outer inward own s (length old) (suc i) (omega arith) (omega arith)));
    inner = λ c e. (last_inner_found outer s (length old) c (sym is ∙ e)).0;
    within = λ c e. let f = last_inner_found outer s (length old) c (sym is ∙ e) in (f.1, f.2);
  }

  module _ (s c : ℕ) (first_cancel : FirstCancel) (old : List (Option FirstCancel)) (next : Option ℕ) (is : next ≡ last_inner outer s (c - 1)) where
    back : 1 ≤ c → suc (c - 1) ≡ c
    back h = omega arith

    -- from the next inner scope on, what is reached from c on
    next_reached : outer c ≡ Some s → 1 ≤ c → (t : ℕ) → 1 ≤ t → reached outer own s (bound next) t ≡ (reached outer own s (suc c) t || (is_none (own c) && reached outer own c 0 t))
    next_reached at h t k =
        skip_to s (c - 1) next is t k ∙ ap (λ n. reached outer own s n t) (back h) ∙ reached_step outer inward own s c at t k

    next_inner : (d : ℕ) → next ≡ Some d → outer d ≡ Some s
    next_inner d e = (last_inner_found outer s (c - 1) d (sym is ∙ e)).0

    next_within : c ≤ length old → (d : ℕ) → next ≡ Some d → (1 ≤ d) × (d ≤ length old)
    next_within k d e = let f = last_inner_found outer s (c - 1) d (sym is ∙ e) in (f.1, omega (arith, f.2))

    -- an inner scope with an own cancel is passed over
    pub spread_past : (new : List (Option FirstCancel)) → is_none (own c) ≡ false → IsSpreadUpTo outer own s (Some c) first_cancel old new → IsSpreadUpTo outer own s next first_cancel old new
    spread_past new owned done =
        let in_ = done.within c refl in
        record {
          spread = λ i lt. done.spread i lt ∙ ap (λ b. cond b (Some (Some first_cancel)) (slice_get old i))
              (sym (next_reached (done.inner c refl) in_.0 (suc i) (omega arith) ∙ ap (λ b. reached outer own s (suc c) (suc i) || (b && reached outer own c 0 (suc i))) owned ∙ or_false _));
          inner = next_inner;
          within = next_within in_.1;
        }

    -- and else the first cancel is put at all that it reaches from there
    pub spread_inner : (mid new : List (Option FirstCancel)) → length mid ≡ length old → is_none (own c) ≡ true → IsSpreadUpTo outer own s (Some c) first_cancel old mid → IsSpread (reached outer own c 0) first_cancel mid new
        → IsSpreadUpTo outer own s next first_cancel old new
    spread_inner mid new len free done more =
        let in_ = done.within c refl in
        record {
          spread = λ i lt. more i (omega arith)
              ∙ ap (cond (reached outer own c 0 (suc i)) (Some (Some first_cancel))) (done.spread i lt)
              ∙ twice (reached outer own s (suc c) (suc i)) (reached outer own c 0 (suc i)) (Some (Some first_cancel)) (slice_get old i)
              ∙ ap (λ b. cond b (Some (Some first_cancel)) (slice_get old i))
              (sym (next_reached (done.inner c refl) in_.0 (suc i) (omega arith) ∙ ap (λ b. reached outer own s (suc c) (suc i) || (b && reached outer own c 0 (suc i))) free));
          inner = next_inner;
          within = next_within in_.1;
        }

-- the walk goes on at a lower number
pub next_falls : (outer : ℕ → Option ℕ) (s c : ℕ) (next now : Option ℕ) → next ≡ last_inner outer s (c - 1) → now ≡ Some c → 1 ≤ c → place next < place now
next_falls outer s c next now is at h =
    let a : place next ≡ place (last_inner outer s (c - 1)) = ap place is in
    let b : place now ≡ c = ap place at in
    let d : place (last_inner outer s (c - 1)) ≤ c - 1 = last_inner_place outer s (c - 1) in
    omega arith

-- fewer scopes have greater numbers
pub fewer : (n s c : ℕ) → s < c → c ≤ n → n - c < n - s
fewer n s c h k = omega arith
