-- Which scope is the first of an actor's unclosed ones after another.
use Rattle.std.proofs.Common.{ℕ, ◌&&◌, ◌+◌, ◌<◌, ◌==◌, ◌∙◌, ◌≡◌, ◌≤◌, None, Option, Some, ap, arith, cond, nat_lt, not, refl, subst, suc, zero}
use Rattle.scope_rows.specs.{History, Opening, closed, earliest, next_unclosed, opened_count, opening, option_and_then, outermost, unclosed_after, unclosed_of}
use Rattle.scope_rows.proofs.Words.{HasUnclosed, and_parts, and_then_some, earliest_found, earliest_same, eq-eqb, eqb-true, if_some, lt-ltb, ltb-true, not-true, opened_after, same_Some}

-- the number of a scope, if the actor opened it and has not closed it
abbrev number : History → ℕ → ℕ → Option ℕ
number h a s = option_and_then (λ (o : Opening). cond ((o.actor == a) && not (closed h s)) (Some s) None) (opening h s)

-- what is found is unclosed
found_unclosed : (h : History) (a s t : ℕ) → number h a s ≡ Some t → (s ≡ t) × HasUnclosed h a s
found_unclosed h a s t found =
    let entry = and_then_some (λ (o : Opening). cond ((o.actor == a) && not (closed h s)) (Some s) None) (opening h s) t found in
    let test = if_some ((entry.0.actor == a) && not (closed h s)) (Some s) t entry.2 in
    let parts = and_parts (entry.0.actor == a) (not (closed h s)) test.0 in
    (same_Some s t test.1, record { opened = entry.0; is = entry.1; by = eqb-true entry.0.actor a parts.0; unclosed = not-true (closed h s) parts.1 })

-- an unclosed scope is found
unclosed_found : (h : History) (a s : ℕ) → HasUnclosed h a s → number h a s ≡ Some s
unclosed_found h a s it =
    ap (option_and_then (λ (o : Opening). cond ((o.actor == a) && not (closed h s)) (Some s) None)) it.is
    ∙ (ap (λ b. cond (b && not (closed h s)) (Some s) None) (eq-eqb it.opened.actor a it.by) ∙ ap (λ b. cond (not b) (Some s) None) it.unclosed)

-- if nothing is, nothing is found
all_none : {A : Type 0} (f : ℕ → Option A) (n : ℕ) → ((i : ℕ) → i < n → f i ≡ None) → earliest f n ≡ None
unfolding earliest
all_none f zero none = refl
all_none f (suc n) none = rw (all_none f n (λ i less. none i (omega (arith, less)))) (none n (omega arith))

none_by : {A : Type 0} (o : Option A) → ((x : A) → o ≡ Some x → ⊥) → o ≡ None
none_by None not_some = refl
none_by (Some x) not_some = absurd (not_some x refl)

module _ (h : History) (a s : ℕ) where
  -- what is found after scope s is unclosed, and comes after it
  after_found : (n t : ℕ) → unclosed_after h a s n ≡ Some t → (h.base.scopes + 1 + n ≡ t) × HasUnclosed h a t × (s < t)
  after_found n t found =
      let test = if_some (nat_lt s (h.base.scopes + 1 + n)) (unclosed_of h a n) t found in
      let it = found_unclosed h a (h.base.scopes + 1 + n) t test.1 in
      (it.0, subst (HasUnclosed h a) it.0 it.1, subst (λ m. s < m) it.0 (ltb-true s (h.base.scopes + 1 + n) test.0))

  -- where each unclosed scope stands at s or before, none is next
  pub next_none : ((u : ℕ) → HasUnclosed h a u → u ≤ s) → next_unclosed h a s ≡ None
  unfolding next_unclosed
  next_none few =
      all_none (unclosed_after h a s) (opened_count h)
      (λ n less. none_by (unclosed_after h a s n) (λ t found. let it = after_found n t found in absurd (omega (arith, few t it.1, it.2))))

  -- the unclosed scope after s before which no other stands is next
  pub next_is : (f : ℕ) → HasUnclosed h a f → s < f → ((u : ℕ) → HasUnclosed h a u → s < u → f ≤ u) → next_unclosed h a s ≡ Some f
  unfolding next_unclosed
  next_is f it after first =
      let there = opened_after h f it.opened it.is in
      let here : unclosed_after h a s there.0 ≡ Some f =
      ap (λ m. cond (nat_lt s m) (number h a m) None) there.2 ∙ (ap (λ b. cond b (number h a f) None) (lt-ltb s f after) ∙ unclosed_found h a f it) in
      let none = all_none (unclosed_after h a s) there.0
      (λ n less. none_by (unclosed_after h a s n) (λ t found. let one = after_found n t found in absurd (omega (arith, first t one.1 one.2, one.0, there.2, less)))) in
      earliest_found (unclosed_after h a s) f there.0 (opened_count h) none here there.1

-- the outermost scope is the first after none
pub outermost_is : (h : History) (a : ℕ) → next_unclosed h a 0 ≡ outermost h a
unfolding next_unclosed outermost
outermost_is h a =
    earliest_same (unclosed_after h a 0) (unclosed_of h a) (opened_count h)
    (λ n less. ap (λ b. cond b (unclosed_of h a n) None) (lt-ltb 0 (h.base.scopes + 1 + n) (omega arith)))
