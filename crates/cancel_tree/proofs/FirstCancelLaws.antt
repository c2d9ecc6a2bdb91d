-- What an own cancel of a scope makes of the cancels.
use Rattle.std.proofs.Common.{ℕ, ◌&&◌, ◌<◌, ◌||◌, ◌∙◌, ◌≡◌, ◌≢◌, ◌≤◌, Bool, None, Option, Some, ap, arith, cond, false, inl, inr, is_none, leb, refl, subst, sym, true}
use Rattle.cancel_tree.specs.{FirstCancel, IsInward, first_cancel_by, nearer, option_and_then, reached}
use Rattle.cancel_tree.proofs.Words.{along, cancel_law, cases_Bool, cases_eq, eq-eqb, false≢true, le-leb, lt-leb, ne_eqb, same_Some, some_none}
use Rattle.cancel_tree.proofs.ReachLaws.{from_outside, reached_above, reached_itself, reached_law}

-- what holds of the near one and of the far one holds of the nearer
nearer_holds : (P : FirstCancel → Type 0) (a b : Option FirstCancel) → ((c : FirstCancel) → a ≡ Some c → P c) → ((c : FirstCancel) → b ≡ Some c → P c) → (c : FirstCancel) → nearer a b ≡ Some c → P c
nearer_holds P None b f g c e = g c e
nearer_holds P (Some a) None f g c e = f c e
nearer_holds P (Some a) (Some b) f g c e =
    elim (cases_Bool (leb a.place b.place)) [
      | inl w ↦ f c (sym (ap (λ t. cond t (Some a) (Some b)) w) ∙ e)
      | inr w ↦ g c (sym (ap (λ t. cond t (Some a) (Some b)) w) ∙ e)
    ]

-- the near one, if the far one is none or not earlier
nearer_first : (a : FirstCancel) (b : Option FirstCancel) → ((c : FirstCancel) → b ≡ Some c → a.place ≤ c.place) → nearer (Some a) b ≡ Some a
nearer_first a None h = refl
nearer_first a (Some b) h = ap (λ t. cond t (Some a) (Some b)) (le-leb a.place b.place (h b refl))

nearer_later : (a b : FirstCancel) → b.place < a.place → nearer (Some a) (Some b) ≡ Some b
nearer_later a b h = ap (λ t. cond t (Some a) (Some b)) (lt-leb a.place b.place h)

is_None : {A : Type 0} (o : Option A) → is_none o ≡ true → o ≡ None
is_None None e = refl
is_None (Some x) e = absurd (false≢true e)

module _ (outer : ℕ → Option ℕ) (inward : IsInward outer) (own : ℕ → Option FirstCancel) (n : ℕ) (latest : (t : ℕ) (c : FirstCancel) → own t ≡ Some c → c.place ≤ n) where
  far_bounded : (o : Option ℕ) → ((p : ℕ) → o ≡ Some p → (c : FirstCancel) → first_cancel_by outer own p ≡ Some c → c.place ≤ n) → (c : FirstCancel) → option_and_then (first_cancel_by outer own) o ≡ Some c → c.place ≤ n
  far_bounded None h c e = absurd (some_none c e)
  far_bounded (Some p) h c e = h p refl c e

  pub cancel_bounded : (t : ℕ) → 1 ≤ t → (c : FirstCancel) → first_cancel_by outer own t ≡ Some c → c.place ≤ n
  cancel_bounded =
      along outer inward (λ t. (c : FirstCancel) → first_cancel_by outer own t ≡ Some c → c.place ≤ n)
      (λ t h ih c e. nearer_holds (λ c. c.place ≤ n) (own t) (option_and_then (first_cancel_by outer own) (outer t)) (latest t) (far_bounded (outer t) ih) c (sym (cancel_law outer inward own t) ∙ e))

module _ (outer : ℕ → Option ℕ) (inward : IsInward outer) (own new : ℕ → Option FirstCancel) (s : ℕ) (m : FirstCancel) (h : 1 ≤ s) (was : own s ≡ None) (is : new s ≡ Some m) (same : (t : ℕ) → t ≢ s → new t ≡ own t) where
  abbrev first_cancel : ℕ → Option FirstCancel
  first_cancel t = first_cancel_by outer own t

  abbrev cancel_new : ℕ → Option FirstCancel
  cancel_new t = first_cancel_by outer new t

  abbrev far : Option ℕ → Option FirstCancel
  far o = option_and_then (first_cancel_by outer own) o

  abbrev far_new : Option ℕ → Option FirstCancel
  far_new o = option_and_then (first_cancel_by outer new) o

  -- what was the first cancel of the scope came from outside
  from_far : first_cancel s ≡ far (outer s)
  from_far = cancel_law outer inward own s ∙ ap (λ o. nearer o (far (outer s))) was

  far_same : (t : ℕ) → ((p : ℕ) → outer t ≡ Some p → cancel_new p ≡ first_cancel p) → (o : Option ℕ) → outer t ≡ o → far_new o ≡ far o
  far_same t ih None e = refl
  far_same t ih (Some p) e = ih p e

  -- an own cancel later than the cause changes nothing
  pub cancel_stays : (c : FirstCancel) → first_cancel s ≡ Some c → c.place < m.place → (t : ℕ) → 1 ≤ t → cancel_new t ≡ first_cancel t
  cancel_stays c at late =
      along outer inward (λ t. cancel_new t ≡ first_cancel t)
      (λ t k ih. elim (cases_eq t s) [
        | inl e ↦ subst (λ u. ((p : ℕ) → outer u ≡ Some p → cancel_new p ≡ first_cancel p) → cancel_new u ≡ first_cancel u) (sym e)
            (λ ih. cancel_law outer inward new s
            ∙ ap (λ o. nearer o (far_new (outer s))) is
            ∙ ap (nearer (Some m)) (far_same s ih (outer s) refl ∙ sym from_far ∙ at)
            ∙ nearer_later m c late ∙ sym at) ih
        | inr ne ↦ cancel_law outer inward new t
            ∙ ap (λ o. nearer o (far_new (outer t))) (same t ne)
            ∙ ap (nearer (own t)) (far_same t ih (outer t) refl)
            ∙ sym (cancel_law outer inward own t)
      ])

  abbrev R : ℕ → Bool
  R t = reached outer new s 0 t

  -- what comes from outside to an inner scope without an own cancel
  passed_on : (t p : ℕ) → from_outside s 0 t R (Some p) ≡ R p
  passed_on t p =
      elim (cases_eq p s) [
        | inl e ↦ ap (λ b. cond b (leb 0 t) (R p)) (eq-eqb p s e) ∙ le-leb 0 t (omega arith) ∙ sym (ap R e ∙ reached_itself outer inward new s 0 h)
        | inr ne ↦ ap (λ b. cond b (leb 0 t) (R p)) (ne_eqb p s ne)
      ]

  -- whether t itself is reached, if it is not s
  reached_open : (t : ℕ) → 1 ≤ t → t ≢ s → own t ≡ None → R t ≡ from_outside s 0 t R (outer t)
  reached_open t k ne none =
      reached_law outer inward new s 0 t k
      ∙ ap (λ b. b || (is_none (new t) && from_outside s 0 t R (outer t))) (ne_eqb t s ne)
      ∙ ap (λ o. is_none o && from_outside s 0 t R (outer t)) (same t ne ∙ none)

  reached_owned : (t : ℕ) → 1 ≤ t → t ≢ s → (o : FirstCancel) → own t ≡ Some o → R t ≡ false
  reached_owned t k ne o some =
      reached_law outer inward new s 0 t k
      ∙ ap (λ b. b || (is_none (new t) && from_outside s 0 t R (outer t))) (ne_eqb t s ne)
      ∙ ap (λ o. is_none o && from_outside s 0 t R (outer t)) (same t ne ∙ some)

  open_cancel : (t : ℕ) → 1 ≤ t → (p : ℕ) → outer t ≡ Some p → own t ≡ None → first_cancel t ≡ first_cancel p
  open_cancel t k p e none =
      cancel_law outer inward own t ∙ ap (λ o. nearer o (far (outer t))) none ∙ ap far e

  -- what is reached had the first cancel of the scope
  pub reached_cancel : (t : ℕ) → 1 ≤ t → R t ≡ true → first_cancel t ≡ first_cancel s
  reached_cancel =
      along outer inward (λ t. R t ≡ true → first_cancel t ≡ first_cancel s)
      (λ t k ih r. elim (cases_eq t s) [
        | inl e ↦ ap first_cancel e
        | inr ne ↦ by t k ne (own t) refl (outer t) refl ih r
      ])
    where
      by : (t : ℕ) → 1 ≤ t → t ≢ s → (c : Option FirstCancel) → own t ≡ c → (o : Option ℕ) → outer t ≡ o → ((p : ℕ) → outer t ≡ Some p → R p ≡ true → first_cancel p ≡ first_cancel s) → R t ≡ true → first_cancel t ≡ first_cancel s
      by t k ne (Some c) at o e ih r = absurd (false≢true (sym (reached_owned t k ne c at) ∙ r))
      by t k ne None at None e ih r = absurd (false≢true (sym (reached_open t k ne at ∙ ap (from_outside s 0 t R) e) ∙ r))
      by t k ne None at (Some p) e ih r = open_cancel t k p e at ∙ ih p e (sym (reached_open t k ne at ∙ ap (from_outside s 0 t R) e ∙ passed_on t p) ∙ r)

  module _ (latest : (t : ℕ) (c : FirstCancel) → own t ≡ Some c → c.place ≤ m.place) (fresh : (c : FirstCancel) → first_cancel s ≡ Some c → m.place ≤ c.place) where
    abbrev IsPut : ℕ → Type 0
    IsPut t = cancel_new t ≡ cond (R t) (Some m) (first_cancel t)

    above_same : (t : ℕ) → 1 ≤ t → t < s → IsPut t → cancel_new t ≡ first_cancel t
    above_same t k lt put = put ∙ ap (λ b. cond b (Some m) (first_cancel t)) (reached_above outer inward new s 0 t k lt)

    put_here : ((p : ℕ) → outer s ≡ Some p → IsPut p) → IsPut s
    put_here ih =
        cancel_law outer inward new s
        ∙ ap (λ o. nearer o (far_new (outer s))) is
        ∙ ap (nearer (Some m)) (far_same s (λ p e. let i = inward s p e in above_same p i.0 i.1 (ih p e)) (outer s) refl ∙ sym from_far)
        ∙ nearer_first m (first_cancel s) fresh
        ∙ sym (ap (λ b. cond b (Some m) (first_cancel s)) (reached_itself outer inward new s 0 h))

    -- an own cancel is not later than the new one, nor than what that replaces
    owned_same : (o : FirstCancel) (p : ℕ) → 1 ≤ p → o.place ≤ m.place → (b : Bool) → R p ≡ b → nearer (Some o) (cond b (Some m) (first_cancel p)) ≡ nearer (Some o) (first_cancel p)
    owned_same o p k le true r =
        nearer_first o (Some m) (λ c e. let q : m ≡ c = same_Some m c e in subst (λ (x : FirstCancel). o.place ≤ x.place) q le)
        ∙ sym (nearer_first o (first_cancel p) (λ c e. let f : m.place ≤ c.place = fresh c (sym (reached_cancel p k r) ∙ e) in omega arith))
    owned_same o p k le false r = refl

    put_inside : (t : ℕ) → 1 ≤ t → t ≢ s → (c : Option FirstCancel) → own t ≡ c → (o : Option ℕ) → outer t ≡ o → ((p : ℕ) → outer t ≡ Some p → IsPut p) → IsPut t
    put_inside t k ne (Some c) at None e ih =
        cancel_law outer inward new t ∙ ap (λ o. nearer o (far_new (outer t))) (same t ne) ∙ ap (λ o. nearer (own t) (far_new o)) e
        ∙ sym (cancel_law outer inward own t ∙ ap (λ o. nearer (own t) (far o)) e)
        ∙ sym (ap (λ b. cond b (Some m) (first_cancel t)) (reached_owned t k ne c at))
    put_inside t k ne (Some c) at (Some p) e ih =
        cancel_law outer inward new t ∙ ap (λ o. nearer o (far_new (outer t))) (same t ne ∙ at) ∙ ap (λ o. nearer (Some c) (far_new o)) e
        ∙ ap (nearer (Some c)) (ih p e) ∙ owned_same c p (inward t p e).0 (latest t c at) (R p) refl
        ∙ sym (cancel_law outer inward own t ∙ ap (λ o. nearer o (far (outer t))) at ∙ ap (λ o. nearer (Some c) (far o)) e)
        ∙ sym (ap (λ b. cond b (Some m) (first_cancel t)) (reached_owned t k ne c at))
    put_inside t k ne None at None e ih =
        cancel_law outer inward new t ∙ ap (λ o. nearer o (far_new (outer t))) (same t ne) ∙ ap (λ o. nearer (own t) (far_new o)) e
        ∙ sym (cancel_law outer inward own t ∙ ap (λ o. nearer (own t) (far o)) e)
        ∙ sym (ap (λ b. cond b (Some m) (first_cancel t)) (reached_open t k ne at ∙ ap (from_outside s 0 t R) e))
    put_inside t k ne None at (Some p) e ih =
        cancel_law outer inward new t ∙ ap (λ o. nearer o (far_new (outer t))) (same t ne ∙ at) ∙ ap far_new e
        ∙ ih p e
        ∙ ap (λ c. cond (R p) (Some m) c) (sym (open_cancel t k p e at))
        ∙ sym (ap (λ b. cond b (Some m) (first_cancel t)) (reached_open t k ne at ∙ ap (from_outside s 0 t R) e ∙ passed_on t p))

    -- a cancel that is not later than the cause is the cause of all that it reaches
    pub cancel_put : (t : ℕ) → 1 ≤ t → cancel_new t ≡ cond (R t) (Some m) (first_cancel t)
    cancel_put =
        along outer inward IsPut
        (λ t k ih. elim (cases_eq t s) [
          | inl e ↦ subst (λ u. ((p : ℕ) → outer u ≡ Some p → IsPut p) → IsPut u) (sym e) put_here ih
          | inr ne ↦ put_inside t k ne (own t) refl (outer t) refl ih
        ])
