-- The numbers of a range that pass a test, by their places among those that do.
use Rattle.std.specs.Prelude.{◌++◌, ◌+◌, ◌-◌, ◌<◌, ◌∷◌, ◌≡◌, ◌≤◌}
use Rattle.scope_model.specs.{[], ℕ, List, None, Some, filter, length, range_with_len, slice_get}
use Rattle.scope_model.proofs.Words.{◌∙◌, Bool, ap, append-nil, arith, cond, false, filter-append, get_push, length-append, range_push, refl, slice_get_past, slice_get_within, suc, sym}
use Rattle.scope_model.proofs.Words.{true, zero}

-- one number more passes, or doesn't
pub passed_more : (p : ℕ → Bool) (a n : ℕ) → filter p (range_with_len a (n + 1)) ≡ filter p (range_with_len a n) ++ cond (p (a + n)) ((a + n) ∷ []) []
passed_more p a n = ap (filter p) (range_push a n) ∙ filter-append p (range_with_len a n) ((a + n) ∷ [])

last_there : {A : Type 0} (xs : List A) (x : A) → slice_get (xs ++ x ∷ []) (length xs) ≡ Some x
last_there [] x = refl
last_there (y ∷ ys) x = last_there ys x

-- a number that passes counts, and another does not
pub counted_passed : (p : ℕ → Bool) (a n : ℕ) → p (a + n) ≡ true → length (filter p (range_with_len a (n + 1))) ≡ length (filter p (range_with_len a n)) + 1
counted_passed p a n so =
    ap length (passed_more p a n ∙ ap (λ b. filter p (range_with_len a n) ++ cond b ((a + n) ∷ []) []) so) ∙ length-append (filter p (range_with_len a n)) ((a + n) ∷ [])

pub counted_other : (p : ℕ → Bool) (a n : ℕ) → p (a + n) ≡ false → length (filter p (range_with_len a (n + 1))) ≡ length (filter p (range_with_len a n))
counted_other p a n so =
    ap length (passed_more p a n ∙ ap (λ b. filter p (range_with_len a n) ++ cond b ((a + n) ∷ []) []) so)
    ∙ (length-append (filter p (range_with_len a n)) [] ∙ omega arith)

kept_by : {A : Type 0} (b : Bool) (xs : List A) (y x : A) (i : ℕ) → slice_get xs i ≡ Some x → slice_get (xs ++ cond b (y ∷ []) []) i ≡ Some x
kept_by true xs y x i at = get_push xs y i (slice_get_within xs i x at) ∙ at
kept_by false xs y x i at = ap (λ ys. slice_get ys i) (append-nil xs) ∙ at

-- what stands at a place stands there in a longer range
kept_on : (p : ℕ → Bool) (a n k i x : ℕ) → slice_get (filter p (range_with_len a n)) i ≡ Some x → slice_get (filter p (range_with_len a (n + k))) i ≡ Some x
kept_on p a n zero i x at = let same : n + 0 ≡ n = omega arith in ap (λ m. slice_get (filter p (range_with_len a m)) i) same ∙ at
kept_on p a n (suc k) i x at =
    let more : n + suc k ≡ (n + k) + 1 = omega arith in
    ap (λ m. slice_get (filter p (range_with_len a m)) i) more
    ∙ (ap (λ xs. slice_get xs i) (passed_more p a (n + k)) ∙ kept_by (p (a + (n + k))) (filter p (range_with_len a (n + k))) (a + (n + k)) x i (kept_on p a n k i x at))

-- the number that passes after i others stands at place i
pub stands_there : (p : ℕ → Bool) (a n m i : ℕ) → p (a + n) ≡ true → length (filter p (range_with_len a n)) ≡ i → n < m → slice_get (filter p (range_with_len a m)) i ≡ Some (a + n)
stands_there p a n m i so count within =
    let xs = filter p (range_with_len a n) in
    let last : slice_get (filter p (range_with_len a (n + 1))) i ≡ Some (a + n) =
    ap (λ ys. slice_get ys i) (passed_more p a n ∙ ap (λ b. xs ++ cond b ((a + n) ∷ []) []) so) ∙ (ap (slice_get (xs ++ (a + n) ∷ [])) (sym count) ∙ last_there xs (a + n)) in
    let all : (n + 1) + (m - (n + 1)) ≡ m = omega arith in
    ap (λ k. slice_get (filter p (range_with_len a k)) i) (sym all) ∙ kept_on p a (n + 1) (m - (n + 1)) i (a + n) last

-- if no more pass than i there is none at place i
pub none_there : (p : ℕ → Bool) (a m i : ℕ) → length (filter p (range_with_len a m)) ≤ i → slice_get (filter p (range_with_len a m)) i ≡ None
none_there p a m i few = slice_get_past (filter p (range_with_len a m)) i few
