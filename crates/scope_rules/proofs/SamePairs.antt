-- Lists of pairs that test as the same are one.
use Rattle.std.proofs.Common.{[], ℕ, ◌<◌, ◌==◌, ◌||◌, ◌∙◌, ◌∷◌, ◌≡◌, ◌≤◌, ◌⊎◌, Bool, List, Some, ap, arith, false, inl, inr, length, not, refl, slice_get, suc, sym, true, zero}
use Rattle.scope_rules.specs.{Binding, Decides, Name, Num, Text, Value, bytes_decides, differ_at, same_name, same_pair, same_pairs, same_value, some_below, text_of}
use Rattle.scope_rules.proofs.Words.{Decides-int_eq, and_from, and_parts, cases_lt, eq-eqb, eqb-true, not-false, not-true, not_from_true}
use Rattle.scope_rules.proofs.{Accepted.or_left, Accepted.or_right, NameLemmas.same_text}

-- names that test as the same are one
pub same_name_tells : (a b : Name) → Decides (same_name a b) (a ≡ b)
same_name_tells a b =
    let texts = bytes_decides (text_of a) (text_of b) in
    (λ told. same_text a b (texts.0 told), λ same. texts.1 (ap text_of same))

-- values that test as the same are one
pub same_value_tells : (a b : Value) → Decides (same_value a b) (a ≡ b)
same_value_tells (Num m) (Num n) =
    let numbers = Decides-int_eq m n in
    (λ told. ap Num (numbers.0 told), λ same. numbers.1 (cc))
same_value_tells (Text a) (Text b) =
    let names = same_name_tells a b in
    (λ told. ap Text (names.0 told), λ same. names.1 (cc))
same_value_tells (Num m) (Text b) = (λ told. absurd (cc), λ same. absurd (cc))
same_value_tells (Text a) (Num n) = (λ told. absurd (cc), λ same. absurd (cc))

one_pair : (a b : Binding) → a.key ≡ b.key → a.value ≡ b.value → a ≡ b
one_pair a b keys values =
    let first : a ≡ record { key = b.key; value = a.value } = ap (λ (k : Name). let pair : Binding = record { key = k; value = a.value } in pair) keys in
    let second : record { key = b.key; value = a.value } ≡ b = ap (λ (v : Value). let pair : Binding = record { key = b.key; value = v } in pair) values in
    first ∙ second

-- pairs that test as the same are one
pub same_pair_tells : (a b : Binding) → Decides (same_pair (Some a) (Some b)) (a ≡ b)
same_pair_tells a b =
    let keys = same_name_tells a.key b.key in
    let values = same_value_tells a.value b.value in (
      λ told. let parts = and_parts (same_name a.key b.key) (same_value a.value b.value) told in one_pair a b (keys.0 parts.0) (values.0 parts.1),
      λ same. and_from (same_name a.key b.key) (same_value a.value b.value) (keys.1 (ap (λ (x : Binding). x.key) same)) (values.1 (ap (λ (x : Binding). x.value) same)),
    )

none_below_by : (test : ℕ → Bool) (n i : ℕ) → (some_below test n || test n) ≡ false → (i < n) ⊎ (n ≤ i) → i < suc n → (some_below test n ≡ false → i < n → test i ≡ false) → test i ≡ false
none_below_by test n i none (inl sooner) within rest = rest (or_left (some_below test n) (test n) none) sooner
none_below_by test n i none (inr later) within rest =
    let same : i ≡ n = omega arith in
    ap test same ∙ or_right (some_below test n) (test n) none

-- a test that holds of no number below n fails at each
pub none_below_at : (test : ℕ → Bool) (n i : ℕ) → some_below test n ≡ false → i < n → test i ≡ false
unfolding some_below
none_below_at test zero i none within = absurd (omega arith)
none_below_at test (suc n) i none within = none_below_by test n i none (cases_lt i n) within (none_below_at test n i)

-- a test that fails at each number below n holds of none
pub none_below_from : (test : ℕ → Bool) (n : ℕ) → ((i : ℕ) → i < n → test i ≡ false) → some_below test n ≡ false
unfolding some_below
none_below_from test zero each = refl
none_below_from test (suc n) each = rw (none_below_from test n (λ i within. each i (omega arith))) (each n (omega arith))

alike : (xs ys : List Binding) → length xs ≡ length ys → ((i : ℕ) → i < length xs → same_pair (slice_get xs i) (slice_get ys i) ≡ true) → xs ≡ ys
alike [] [] size each = refl
alike [] (y ∷ ys) size each = absurd (omega (arith, size))
alike (x ∷ xs) [] size each = absurd (omega (arith, size))
alike (x ∷ xs) (y ∷ ys) size each =
    let first : x ≡ y = (same_pair_tells x y).0 (each 0 (omega arith)) in
    let rest : xs ≡ ys = alike xs ys (omega (arith, size)) (λ i within. each (suc i) (omega (arith, within))) in
    cc

same_at : (xs : List Binding) (i : ℕ) → i < length xs → same_pair (slice_get xs i) (slice_get xs i) ≡ true
same_at [] i within = absurd (omega arith)
same_at (x ∷ xs) zero within = (same_pair_tells x x).1 refl
same_at (x ∷ xs) (suc i) within = same_at xs i (omega arith)

same_itself : (xs : List Binding) → same_pairs xs xs ≡ true
unfolding same_pairs
same_itself xs =
    let none = none_below_from (differ_at xs xs) (length xs) (λ i within. not_from_true (same_pair (slice_get xs i) (slice_get xs i)) (same_at xs i within)) in
    rw (eq-eqb (length xs) (length xs) refl) (ap not none)

told_same : (xs ys : List Binding) → same_pairs xs ys ≡ true → xs ≡ ys
unfolding same_pairs
told_same xs ys told =
    let parts = and_parts (length xs == length ys) (not (some_below (differ_at xs ys) (length xs))) told in
    let none = not-true (some_below (differ_at xs ys) (length xs)) parts.1 in
    alike xs ys (eqb-true _ _ parts.0) (λ i within. not-false _ (none_below_at (differ_at xs ys) (length xs) i none within))

-- lists of pairs that test as the same are one
pub same_pairs_tell : (xs ys : List Binding) → Decides (same_pairs xs ys) (xs ≡ ys)
same_pairs_tell xs ys = (told_same xs ys, λ same. ap (same_pairs xs) (sym same) ∙ same_itself xs)
