-- Lists with one element changed, and with one put at the end.
use Rattle.std.proofs.Common.{[], ℕ, ◌++◌, ◌<◌, ◌∙◌, ◌∷◌, ◌≡◌, ◌≢◌, ◌⊎◌, List, Some, ap, arith, get_or, inl, inr, length, refl, set, slice_get, suc, sym, zero}
use Rattle.scope_rows.specs.{altered}
use Rattle.scope_rows.proofs.Words.{cases_eq}

-- a change leaves how many elements there are
pub altered_length : {R : Type 0} (f : R → R) (xs : List R) (i : ℕ) → length (altered f xs i) ≡ length xs
altered_length f [] i = refl
altered_length f (x ∷ xs) zero = refl
altered_length f (x ∷ xs) (suc i) = ap suc (altered_length f xs i)

-- the others stay
pub altered_other : {R : Type 0} (f : R → R) (xs : List R) (i j : ℕ) → j ≢ i → slice_get (altered f xs i) j ≡ slice_get xs j
altered_other f [] i j apart = refl
altered_other f (x ∷ xs) zero zero apart = absurd (apart refl)
altered_other f (x ∷ xs) zero (suc j) apart = refl
altered_other f (x ∷ xs) (suc i) zero apart = refl
altered_other f (x ∷ xs) (suc i) (suc j) apart = altered_other f xs i j (λ same. apart (ap suc same))

-- a change that writes the element
pub altered_set : {R : Type 0} (xs : List R) (i : ℕ) (x : R) → i < length xs → set xs i x ≡ altered (λ old. x) xs i
altered_set [] i x within = absurd (omega arith)
altered_set (y ∷ ys) zero x within = refl
altered_set (y ∷ ys) (suc i) x within = ap (λ zs. y ∷ zs) (altered_set ys i x (omega arith))

-- the element there after the change
pub record IsChanged {R : Type 0} (f : R → R) (xs : List R) (i : ℕ) (y : R) : Type 0 where
  pub was : R
  pub at : slice_get xs i ≡ Some was
  pub is : f was ≡ y

-- there is an element at each place within the list
pub there_is : {R : Type 0} (xs : List R) (i : ℕ) → i < length xs → (x : R) × (slice_get xs i ≡ Some x)
there_is [] i within = absurd (omega arith)
there_is (x ∷ xs) zero within = (x, refl)
there_is (x ∷ xs) (suc i) within = there_is xs i (omega arith)

-- what a change leaves at its place was changed
changed_by : {R : Type 0} (f : R → R) (xs : List R) (i : ℕ) (y : R) → slice_get (altered f xs i) i ≡ Some y → IsChanged f xs i y
changed_by f [] i y at = absurd cc
changed_by f (x ∷ xs) zero y at = record { was = x; at = refl; is = cc }
changed_by f (x ∷ xs) (suc i) y at = let it = changed_by f xs i y at in record { was = it.was; at = it.at; is = it.is }

-- what stands at a place after a change was changed, or stood there
pub altered_split : {R : Type 0} (f : R → R) (xs : List R) (i j : ℕ) (y : R) → slice_get (altered f xs i) j ≡ Some y → ((j ≡ i) × IsChanged f xs j y) ⊎ ((j ≢ i) × (slice_get xs j ≡ Some y))
altered_split f xs i j y at =
    elim (cases_eq j i) [
      | inl same ↦ inl (same, changed_by f xs j y (ap (λ n. slice_get (altered f xs n) j) same ∙ at))
      | inr apart ↦ inr (apart, sym (altered_other f xs i j apart) ∙ at)
    ]

-- what stands in a longer list stood there, or is the last
pub pushed_split : {R : Type 0} (xs : List R) (x : R) (i : ℕ) (y : R) → slice_get (xs ++ x ∷ []) i ≡ Some y → (slice_get xs i ≡ Some y) ⊎ ((i ≡ length xs) × (x ≡ y))
pushed_split [] x zero y at = inr (refl, cc)
pushed_split [] x (suc i) y at = absurd cc
pushed_split (z ∷ xs) x zero y at = inl at
pushed_split (z ∷ xs) x (suc i) y at =
    elim (pushed_split xs x i y at) [ inl there ↦ inl there | inr last ↦ inr (ap suc last.0, last.1) ]

-- an element that was read and is written changed
pub altered_read : {R : Type 0} (f : R → R) (xs : List R) (i : ℕ) (x : R) → x ≡ get_or xs i x → altered (λ old. f x) xs i ≡ altered f xs i
altered_read f [] i x read = refl
altered_read f (y ∷ ys) zero x read = ap (λ z. f z ∷ ys) read
altered_read f (y ∷ ys) (suc i) x read = ap (λ zs. y ∷ zs) (altered_read f ys i x read)

-- the element there after a change
pub altered_here : {R : Type 0} (f : R → R) (xs : List R) (i : ℕ) (d : R) → i < length xs → get_or (altered f xs i) i d ≡ f (get_or xs i d)
altered_here f [] i d within = absurd (omega arith)
altered_here f (x ∷ xs) zero d within = refl
altered_here f (x ∷ xs) (suc i) d within = altered_here f xs i d (omega arith)

-- an element that was read and is written as it was
pub altered_back : {R : Type 0} (xs : List R) (i : ℕ) (x : R) → x ≡ get_or xs i x → altered (λ old. x) xs i ≡ xs
altered_back [] i x read = refl
altered_back (y ∷ ys) zero x read = ap (λ z. z ∷ ys) read
altered_back (y ∷ ys) (suc i) x read = ap (λ zs. y ∷ zs) (altered_back ys i x read)
