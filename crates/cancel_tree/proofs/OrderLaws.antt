-- There is one list in order of the cancellation, and no other.
use Rattle.std.proofs.Common.{[], ℕ, ◌∙◌, ◌∷◌, ◌≡◌, ◌⊎◌, AllPairs, Bool, Contains, List, Option, arith, inl, inr, refl, subst, suc, sym, zero}
use Rattle.cancel_tree.specs.{IsBefore, IsInOrder}
use Rattle.cancel_tree.proofs.Words.{same_Some}

module _ (when : ℕ → Option ℕ) where
  -- of two scopes only one comes before the other
  never_both : (s t : ℕ) → IsBefore when s t → IsBefore when t s → ⊥
  never_both s t a b =
      let one : a.first ≡ b.then = same_Some a.first b.then (sym a.is_first ∙ b.is_then) in
      let two : a.then ≡ b.first = same_Some a.then b.first (sym a.is_then ∙ b.is_first) in
      let le = a.not_later in
      let ge = b.not_later in
      let s_below = a.by_number (omega arith) in
      let t_below = b.by_number (omega arith) in
      omega arith

  in_order_tail : (x : ℕ) (xs : List ℕ) → AllPairs (IsBefore when) (x ∷ xs) → AllPairs (IsBefore when) xs
  in_order_tail x xs p i j d lt l = p (suc i) (suc j) d (omega arith) (omega arith)

  -- the first comes before each of the others
  first_before : (x y : ℕ) (xs : List ℕ) → AllPairs (IsBefore when) (x ∷ xs) → Contains xs y → IsBefore when x y
  first_before x y xs p (k, lt, e) = subst (IsBefore when x) e (p zero (suc k) y (omega arith) (omega (arith, lt)))

  head_or_tail : (x y : ℕ) (xs : List ℕ) → Contains (x ∷ xs) y → (x ≡ y) ⊎ Contains xs y
  head_or_tail x y xs (zero, lt, e) = inl e
  head_or_tail x y xs (suc k, lt, e) = inr (k, omega (arith, lt), e)

  later : (x y : ℕ) (xs : List ℕ) → Contains xs y → Contains (x ∷ xs) y
  later x y xs (k, lt, e) = (suc k, omega (arith, lt), e)

  same_first : (x y : ℕ) (xs ys : List ℕ) → AllPairs (IsBefore when) (x ∷ xs) → AllPairs (IsBefore when) (y ∷ ys) → Contains (y ∷ ys) x → Contains (x ∷ xs) y → x ≡ y
  same_first x y xs ys p q here there =
      elim (head_or_tail y x ys here) [
        | inl e ↦ sym e
        | inr in_ys ↦ elim (head_or_tail x y xs there) [
          | inl e ↦ e
          | inr in_xs ↦ absurd (never_both x y (first_before x y xs p in_xs) (first_before y x ys q in_ys))
        ]
      ]

  not_again : (x s : ℕ) (xs : List ℕ) → AllPairs (IsBefore when) (x ∷ xs) → Contains xs s → (x ≡ s → ⊥)
  not_again x s xs p there e = let b = subst (λ y. IsBefore when y s) e (first_before x s xs p there) in never_both s s b b

  rest_of : (x y s : ℕ) (xs ys : List ℕ) → x ≡ y → AllPairs (IsBefore when) (x ∷ xs) → Contains xs s → Contains (y ∷ ys) s → Contains ys s
  rest_of x y s xs ys same p there has =
      elim (head_or_tail y s ys has) [
        | inl e ↦ absurd (not_again x s xs p there (same ∙ e))
        | inr in_ys ↦ in_ys
      ]

  same_list : (xs ys : List ℕ) → AllPairs (IsBefore when) xs → AllPairs (IsBefore when) ys → ((s : ℕ) → Contains xs s → Contains ys s) → ((s : ℕ) → Contains ys s → Contains xs s) → xs ≡ ys
  same_list [] [] p q f g = refl
  same_list [] (y ∷ ys) p q f g = absurd (let none = g y (zero, omega arith, refl) in omega (arith, none.1))
  same_list (x ∷ xs) [] p q f g = absurd (let none = f x (zero, omega arith, refl) in omega (arith, none.1))
  same_list (x ∷ xs) (y ∷ ys) p q f g =
      let same = same_first x y xs ys p q (f x (zero, omega arith, refl)) (g y (zero, omega arith, refl)) in
      let rest = same_list xs ys (in_order_tail x xs p) (in_order_tail y ys q)
      (λ s there. rest_of x y s xs ys same p there (f s (later x s xs there)))
      (λ s there. rest_of y x s ys xs (sym same) q there (g s (later y s ys there))) in
      λ i. same i ∷ rest i

-- two lists of the same scopes in order are one
pub order_unique : (is_cancelled : ℕ → Bool) (when : ℕ → Option ℕ) (xs ys : List ℕ) → IsInOrder is_cancelled when xs → IsInOrder is_cancelled when ys → xs ≡ ys
order_unique is_cancelled when xs ys a b = same_list when xs ys a.ascends b.ascends (λ s there. b.all s (a.only s there)) (λ s there. a.all s (b.only s there))
