-- Sums over the tasks of a scope.
use Rattle.std.proofs.Common.{[], ℕ, ◌+◌, ◌<◌, ◌==◌, ◌∙◌, ◌∷◌, ◌≡◌, ◌≢◌, ◌≤◌, ◌⊎◌, Bool, List, Some, ap, arith, cond, false, inl, inr, refl, slice_get, suc, sum_by, sym, true, zero}
use Rattle.tree_dump.specs.{filter, range_with_len}
use Rattle.tree_dump.proofs.Lemmas.{cases_eq, eq-eqb, ne_eqb, sum_by-cons}

abbrev pub unit : Bool → ℕ
unit b = cond b 1 0

pub some_or_none : (n : ℕ) → (0 < n) ⊎ (n ≡ 0)
some_or_none zero = inr refl
some_or_none (suc n) = inl (omega arith)

-- ---- sums over the tasks of a scope

pub sum_some : (f : ℕ → ℕ) (ks : List ℕ) → 0 < sum_by f ks → (j k : ℕ) × (slice_get ks j ≡ Some k) × (0 < f k)
sum_some f [] some = absurd (omega (arith, some))
sum_some f (k ∷ ks) some = by (some_or_none (f k)) (sum_some f ks)
  where
    by : (0 < f k) ⊎ (f k ≡ 0) → (0 < sum_by f ks → (j x : ℕ) × (slice_get ks j ≡ Some x) × (0 < f x)) → (j x : ℕ) × (slice_get (k ∷ ks) j ≡ Some x) × (0 < f x)
    by (inl here) rest = (0, k, refl, here)
    by (inr none) rest =
        let whole = sum_by-cons f k ks in
        let it = rest (omega (arith, some, none, whole)) in
        (suc it.0, it.1, it.2, it.3)

sum_none : (p : ℕ → Bool) (f : ℕ → ℕ) (m a : ℕ) → ((k : ℕ) → a ≤ k → p k ≡ true → f k ≡ 0) → sum_by f (filter p (range_with_len a m)) ≡ 0
sum_none p f zero a none = refl
sum_none p f (suc m) a none = by (p a) refl (sum_none p f m (a + 1) (λ k more holds. none k (omega (arith, more)) holds))
  where
    by : (b : Bool) → p a ≡ b → sum_by f (filter p (range_with_len (a + 1) m)) ≡ 0 → sum_by f (cond b (a ∷ filter p (range_with_len (a + 1) m)) (filter p (range_with_len (a + 1) m))) ≡ 0
    by false holds rest = rest
    by true holds rest =
        let whole = sum_by-cons f a (filter p (range_with_len (a + 1) m)) in
        let here = none a (omega arith) holds in
        omega (arith, whole, here, rest)

pub sum_most : (p : ℕ → Bool) (f : ℕ → ℕ) (m a : ℕ) → ((k : ℕ) → f k ≤ 1) → ((k x : ℕ) → p k ≡ true → p x ≡ true → 0 < f k → 0 < f x → k ≡ x) → sum_by f (filter p (range_with_len a m)) ≤ 1
sum_most p f zero a most same = omega arith
sum_most p f (suc m) a most same = by (p a) refl (sum_most p f m (a + 1) most same)
  where
    by : (b : Bool) → p a ≡ b → sum_by f (filter p (range_with_len (a + 1) m)) ≤ 1 → sum_by f (cond b (a ∷ filter p (range_with_len (a + 1) m)) (filter p (range_with_len (a + 1) m))) ≤ 1
    by false holds rest = rest
    by true holds rest =
        let whole = sum_by-cons f a (filter p (range_with_len (a + 1) m)) in
        let one = most a in
        elim (some_or_none (f a)) [
          | inr none ↦ omega (arith, whole, none, rest)
          | inl some ↦
              let others = sum_none p f m (a + 1) (λ k more holds_k. alone k more holds_k holds some (some_or_none (f k))) in
              omega (arith, whole, one, others)
        ]
      where
        alone : (k : ℕ) → a + 1 ≤ k → p k ≡ true → p a ≡ true → 0 < f a → (0 < f k) ⊎ (f k ≡ 0) → f k ≡ 0
        alone k more holds_k holds_a some (inr none) = none
        alone k more holds_k holds_a some (inl also) = absurd (omega (arith, same a k holds_a holds_k some also, more))

pub sum_least : (f : ℕ → ℕ) (ks : List ℕ) (j k : ℕ) → slice_get ks j ≡ Some k → f k ≤ sum_by f ks
sum_least f [] j k at = absurd cc
sum_least f (x ∷ ks) zero k at = let same : x ≡ k = cc in let whole = sum_by-cons f x ks in let one : f x ≡ f k = ap f same in omega (arith, whole, one)
sum_least f (x ∷ ks) (suc j) k at = let rest = sum_least f ks j k at in let whole = sum_by-cons f x ks in omega (arith, whole, rest)

pub sum_same : (f g : ℕ → ℕ) (ks : List ℕ) → ((k : ℕ) → f k ≡ g k) → sum_by f ks ≡ sum_by g ks
sum_same f g [] each = refl
sum_same f g (k ∷ ks) each =
    let rest = sum_same f g ks each in
    let here = each k in
    let a = sum_by-cons f k ks in
    let b = sum_by-cons g k ks in
    omega (arith, rest, here, a, b)

pub sum_both : (f g : ℕ → ℕ) (ks : List ℕ) → sum_by (λ k. f k + g k) ks ≡ sum_by f ks + sum_by g ks
sum_both f g [] = omega arith
sum_both f g (k ∷ ks) =
    let rest = sum_both f g ks in
    let a = sum_by-cons f k ks in
    let b = sum_by-cons g k ks in
    let both = sum_by-cons (λ x. f x + g x) k ks in
    omega (arith, rest, a, b, both)

pub listed_holds : (p : ℕ → Bool) (ks : List ℕ) (j k : ℕ) → slice_get (filter p ks) j ≡ Some k → p k ≡ true
listed_holds p [] j k at = absurd cc
listed_holds p (x ∷ ks) j k at = by (p x) refl j at (listed_holds p ks)
  where
    by : (b : Bool) → p x ≡ b → (i : ℕ) → slice_get (cond b (x ∷ filter p ks) (filter p ks)) i ≡ Some k → ((i y : ℕ) → slice_get (filter p ks) i ≡ Some y → p y ≡ true) → p k ≡ true
    by false holds i there rest = rest i k there
    by true holds zero there rest = let same : x ≡ k = cc in ap p (sym same) ∙ holds
    by true holds (suc i) there rest = rest i k there

-- the number stands in the list once, if it is one of the range and passes
pub count_listed : (p : ℕ → Bool) (k m a : ℕ) → a ≤ k → k < a + m → sum_by (λ x. unit (x == k)) (filter p (range_with_len a m)) ≡ unit (p k)
count_listed p k zero a lower upper = absurd (omega (arith, lower, upper))
count_listed p k (suc m) a lower upper = by (p a) refl (cases_eq a k) (λ more. count_listed p k m (a + 1) more (omega (arith, upper)))
  where
    f : ℕ → ℕ
    f x = unit (x == k)

    by : (b : Bool) → p a ≡ b → (a ≡ k) ⊎ (a ≢ k) → (a + 1 ≤ k → sum_by (λ x. unit (x == k)) (filter p (range_with_len (a + 1) m)) ≡ unit (p k)) →
        sum_by (λ x. unit (x == k)) (cond b (a ∷ filter p (range_with_len (a + 1) m)) (filter p (range_with_len (a + 1) m))) ≡ unit (p k)
    by b holds (inr apart) rest =
        let others = rest (omega (arith, lower, apart)) in
        skip b
      where
        skip : (c : Bool) → sum_by (λ x. unit (x == k)) (cond c (a ∷ filter p (range_with_len (a + 1) m)) (filter p (range_with_len (a + 1) m))) ≡ unit (p k)
        skip false = rest (omega (arith, lower, apart))
        skip true =
            let whole = sum_by-cons (λ x. unit (x == k)) a (filter p (range_with_len (a + 1) m)) in
            let none : unit (a == k) ≡ 0 = ap unit (ne_eqb a k apart) in
            let after = rest (omega (arith, lower, apart)) in
            omega (arith, whole, none, after)
    by false holds (inl same) rest =
        let none = sum_none p (λ x. unit (x == k)) m (a + 1) (λ x more passes. ap unit (ne_eqb x k (λ equal. absurd (omega (arith, equal, same, more))))) in
        let fails : unit (p k) ≡ 0 = ap unit (ap p (sym same) ∙ holds) in
        omega (arith, none, fails)
    by true holds (inl same) rest =
        let none = sum_none p (λ x. unit (x == k)) m (a + 1) (λ x more passes. ap unit (ne_eqb x k (λ equal. absurd (omega (arith, equal, same, more))))) in
        let whole = sum_by-cons (λ x. unit (x == k)) a (filter p (range_with_len (a + 1) m)) in
        let one : unit (a == k) ≡ 1 = ap unit (eq-eqb a k same) in
        let passes : unit (p k) ≡ 1 = ap unit (ap p (sym same) ∙ holds) in
        omega (arith, none, whole, one, passes)
