-- What one element written, or put at the end, makes of the elements of a list.
use Rattle.std.proofs.Common.{[], ℕ, ◌++◌, ◌<◌, ◌∷◌, ◌≡◌, ◌≢◌, ◌⊎◌, List, Some, ap, arith, inl, inr, length, refl, set, slice_get, suc, zero}

-- the element that is written is there
pub slice_get-set_same : {A : Type 0} (xs : List A) (i : ℕ) (v : A) → i < length xs → slice_get (set xs i v) i ≡ Some v
slice_get-set_same [] i v within = absurd (omega (arith, within))
slice_get-set_same (x ∷ xs) zero v within = refl
slice_get-set_same (x ∷ xs) (suc i) v within = slice_get-set_same xs i v (omega (arith, within))

-- every other one stays
pub slice_get-set_other : {A : Type 0} (xs : List A) (i j : ℕ) (v : A) → j ≢ i → slice_get (set xs i v) j ≡ slice_get xs j
slice_get-set_other [] i j v apart = refl
slice_get-set_other (x ∷ xs) zero zero v apart = absurd (apart refl)
slice_get-set_other (x ∷ xs) zero (suc j) v apart = refl
slice_get-set_other (x ∷ xs) (suc i) zero v apart = refl
slice_get-set_other (x ∷ xs) (suc i) (suc j) v apart = slice_get-set_other xs i j v (λ same. apart (ap suc same))

-- an element of a list with one more is one of the list, or that one
pub get_of_push : {A : Type 0} (xs : List A) (x y : A) (i : ℕ) → slice_get (xs ++ x ∷ []) i ≡ Some y → ((i < length xs) × (slice_get xs i ≡ Some y)) ⊎ ((i ≡ length xs) × (y ≡ x))
get_of_push [] x y zero at = inr (refl, cc)
get_of_push [] x y (suc i) at = absurd cc
get_of_push (z ∷ xs) x y zero at = inl (omega arith, at)
get_of_push (z ∷ xs) x y (suc i) at =
    elim (get_of_push xs x y i at) [ inl h ↦ inl (omega (arith, h.0), h.1) | inr h ↦ inr (ap suc h.0, h.1) ]
