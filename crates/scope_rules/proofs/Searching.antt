-- How searches grow.
use Rattle.std.proofs.Common.{ℕ, ◌+◌, ◌-◌, ◌<◌, ◌||◌, ◌∙◌, ◌≡◌, Bool, None, Option, Some, add-one, ap, arith, refl, suc, suc-add, zero, zero-add}
use Rattle.scope_rules.specs.{earliest, latest, option_or, some_below}

-- nothing was found so far, and nothing here
pub earliest_none_step : {A : Type 0} (f : ℕ → Option A) (i : ℕ) → earliest f i ≡ None → f i ≡ None → earliest f (i + 1) ≡ None
unfolding earliest
earliest_none_step f i none here = rw add-one (rw none here)

-- what was found below i is found below any greater number
pub earliest_kept : {A : Type 0} (f : ℕ → Option A) (x : A) (i k : ℕ) → earliest f i ≡ Some x → earliest f (k + i) ≡ Some x
unfolding earliest
earliest_kept f x i zero found = rw zero-add found
earliest_kept f x i (suc k) found = rw suc-add (rw (earliest_kept f x i k found) refl)

-- nothing was found so far, and it is here
pub earliest_found : {A : Type 0} (f : ℕ → Option A) (x : A) (i n : ℕ) → earliest f i ≡ None → f i ≡ Some x → i < n → earliest f n ≡ Some x
unfolding earliest
earliest_found f x i n none here within =
    let first : earliest f (suc i) ≡ Some x = rw none here in
    let gap : (n - suc i) + suc i ≡ n = omega arith in
    rw gap at (earliest_kept f x (suc i) (n - suc i) first)

-- one number more
pub some_below_more : (test : ℕ → Bool) (i : ℕ) → some_below test (i + 1) ≡ (some_below test i || test i)
unfolding some_below
some_below_more test i = rw add-one refl

pub latest_more : {A : Type 0} (f : ℕ → Option A) (i : ℕ) → latest f (i + 1) ≡ option_or (f i) (latest f i)
unfolding latest
latest_more f i = rw add-one refl

pub earliest_more : {A : Type 0} (f : ℕ → Option A) (i : ℕ) → earliest f (i + 1) ≡ option_or (earliest f i) (f i)
unfolding earliest
earliest_more f i = rw add-one refl

earliest_split : {A : Type 0} (f : ℕ → Option A) (x : A) (n : ℕ) (o : Option A) → earliest f n ≡ o → option_or o (f n) ≡ Some x → (earliest f n ≡ Some x → (i : ℕ) × (i < n) × (f i ≡ Some x)) → (i : ℕ) × (i < suc n) × (f i ≡ Some x)
earliest_split f x n None none found sooner = (n, omega arith, found)
earliest_split f x n (Some y) some found sooner = let there = sooner (some ∙ found) in (there.0, omega (arith, there.1), there.2)

-- what was found stands somewhere
pub earliest_where : {A : Type 0} (f : ℕ → Option A) (x : A) (n : ℕ) → earliest f n ≡ Some x → (i : ℕ) × (i < n) × (f i ≡ Some x)
unfolding earliest
earliest_where f x zero found = absurd cc
earliest_where f x (suc n) found = earliest_split f x n (earliest f n) refl found (earliest_where f x n)

pub earliest_same : {A : Type 0} (f g : ℕ → Option A) (n : ℕ) → ((i : ℕ) → i < n → f i ≡ g i) → earliest f n ≡ earliest g n
unfolding earliest
earliest_same f g zero same = refl
earliest_same f g (suc n) same = rw (earliest_same f g n (λ i h. same i (omega arith))) (ap (option_or (earliest g n)) (same n (omega arith)))

-- what was found from above stands somewhere
latest_split : {A : Type 0} (f : ℕ → Option A) (x : A) (n : ℕ) (o : Option A) → f n ≡ o → option_or o (latest f n) ≡ Some x → (latest f n ≡ Some x → (i : ℕ) × (i < n) × (f i ≡ Some x)) → (i : ℕ) × (i < suc n) × (f i ≡ Some x)
latest_split f x n None here found sooner = let there = sooner found in (there.0, omega (arith, there.1), there.2)
latest_split f x n (Some y) here found sooner = (n, omega arith, here ∙ found)

pub latest_where : {A : Type 0} (f : ℕ → Option A) (x : A) (n : ℕ) → latest f n ≡ Some x → (i : ℕ) × (i < n) × (f i ≡ Some x)
unfolding latest
latest_where f x zero found = absurd cc
latest_where f x (suc n) found = latest_split f x n (f n) refl found (latest_where f x n)
