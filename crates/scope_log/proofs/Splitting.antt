-- Searches over a list of two parts of which the first gives nothing: they find what they find in the
-- second.
use Rattle.std.proofs.Common.{[], ℕ, ◌++◌, ◌+◌, ◌<◌, ◌||◌, ◌∙◌, ◌∷◌, ◌≡◌, ◌≤◌, ◌⊎◌, Bool, List, None, Option, Some, add-zero, ap, arith, count_by, false, fold, inl, inr, length, nat_lt, option_map, refl, slice_get, suc, suc-add}
use Rattle.std.proofs.Common.{sym, take, true, zero, zero-add}
use Rattle.scope_log.specs.{cons_option, earliest, filter, filter_map, last_of, latest, list_any, option_or, range_with_len, some_below}
use Rattle.scope_log.proofs.Words.{any_counted, earliest_same, filter-append, length-filter, list_any-append, option_or-assoc, option_or-none}

-- ---- lists of two parts

or-false : (b : Bool) → (b || false) ≡ b
or-false true = refl
or-false false = refl

either_true : (b c : Bool) → (b || c) ≡ true → (b ≡ true) ⊎ (c ≡ true)
either_true true c is = inl refl
either_true false c is = inr is

either_found : {A : Type 0} (o p : Option A) (x : A) → option_or o p ≡ Some x → (o ≡ Some x) ⊎ (p ≡ Some x)
either_found None p x is = inr is
either_found (Some y) p x is = inl is

pub get_second : {A : Type 0} (xs ys : List A) (i : ℕ) → slice_get (xs ++ ys) (length xs + i) ≡ slice_get ys i
get_second [] ys i = rw zero-add refl
get_second (x ∷ xs) ys i = rw suc-add (get_second xs ys i)

pub get_first : {A : Type 0} (xs ys : List A) (i : ℕ) → i < length xs → slice_get (xs ++ ys) i ≡ slice_get xs i
get_first [] ys i within = absurd (omega arith)
get_first (x ∷ xs) ys zero within = refl
get_first (x ∷ xs) ys (suc i) within = get_first xs ys i (omega arith)

pub take_second : {A : Type 0} (xs ys : List A) (i : ℕ) → take (length xs + i) (xs ++ ys) ≡ xs ++ take i ys
take_second [] ys i = rw zero-add refl
take_second (x ∷ xs) ys i = rw suc-add (ap (λ zs. x ∷ zs) (take_second xs ys i))

pub fold_append : {A B : Type 0} (f : B → A → B) (z : B) (xs ys : List A) → fold f z (xs ++ ys) ≡ fold f (fold f z xs) ys
fold_append f z [] ys = refl
fold_append f z (x ∷ xs) ys = fold_append f (f z x) xs ys

pub last_of_append : {A B : Type 0} (f : A → Option B) (xs ys : List A) → last_of f (xs ++ ys) ≡ option_or (last_of f ys) (last_of f xs)
unfolding last_of
last_of_append f [] ys = sym (option_or-none (last_of f ys))
last_of_append f (x ∷ xs) ys = ap (λ o. option_or o (f x)) (last_of_append f xs ys) ∙ option_or-assoc (last_of f ys) (last_of f xs) (f x)

pub any_second : {A : Type 0} (p : A → Bool) (xs ys : List A) → list_any p xs ≡ false → list_any p (xs ++ ys) ≡ list_any p ys
any_second p xs ys none = list_any-append p xs ys ∙ ap (λ b. b || list_any p ys) none

-- what a test holds of stands somewhere
pub any_where : {A : Type 0} (p : A → Bool) (xs : List A) → list_any p xs ≡ true → (i : ℕ) × (x : A) × (slice_get xs i ≡ Some x) × (p x ≡ true)
any_where p [] found = absurd cc
any_where p (x ∷ xs) found =
    elim (either_true (p x) (list_any p xs) found) [
      | inl here ↦ (0, x, refl, here)
      | inr there ↦ let it = any_where p xs there in (suc it.0, it.1, it.2, it.3)
    ]

either_false : (b c : Bool) → (b || c) ≡ false → (b ≡ false) × (c ≡ false)
either_false false c is = (refl, is)
either_false true c is = absurd cc

-- if a test holds of none, it holds of no element
pub none_where : {A : Type 0} (p : A → Bool) (xs : List A) (i : ℕ) (x : A) → list_any p xs ≡ false → slice_get xs i ≡ Some x → p x ≡ false
none_where p [] i x none at = absurd cc
none_where p (y ∷ xs) zero x none at = let same : y ≡ x = cc in rw same at (either_false (p y) (list_any p xs) none).0
none_where p (y ∷ xs) (suc i) x none at = none_where p xs i x (either_false (p y) (list_any p xs) none).1 at

-- and so does what a search from behind finds
pub last_where : {A B : Type 0} (f : A → Option B) (xs : List A) (y : B) → last_of f xs ≡ Some y → (i : ℕ) × (x : A) × (slice_get xs i ≡ Some x) × (f x ≡ Some y)
unfolding last_of
last_where f [] y found = absurd cc
last_where f (x ∷ xs) y found =
    elim (either_found (last_of f xs) (f x) y found) [
      | inl there ↦ let it = last_where f xs y there in (suc it.0, it.1, it.2, it.3)
      | inr here ↦ (0, x, refl, here)
    ]

-- what each element leaves as it is stays
pub fold_kept : {A B : Type 0} (f : B → A → B) (z : B) (xs : List A) → ((i : ℕ) (x : A) → slice_get xs i ≡ Some x → f z x ≡ z) → fold f z xs ≡ z
fold_kept f z [] kept = refl
fold_kept f z (x ∷ xs) kept = ap (λ y. fold f y xs) (kept 0 x refl) ∙ fold_kept f z xs (λ i y at. kept (suc i) y at)

pub filter_map_second : {A B : Type 0} (f g : A → Option B) (xs ys : List A) → ((i : ℕ) (x : A) → slice_get xs i ≡ Some x → f x ≡ None) → ((i : ℕ) (y : A) → slice_get ys i ≡ Some y → f y ≡ g y) → filter_map f (xs ++ ys) ≡ filter_map g ys
filter_map_second f g [] [] none same = refl
filter_map_second f g [] (y ∷ ys) none same = rw (same 0 y refl) (ap (cons_option (g y)) (filter_map_second f g [] ys (λ i z at. absurd cc) (λ i z at. same (suc i) z at)))
filter_map_second f g (x ∷ xs) ys none same = rw (none 0 x refl) (filter_map_second f g xs ys (λ i z at. none (suc i) z at) same)

-- ---- searches of two parts

map_or : {A B : Type 0} (f : A → B) (o p : Option A) → option_map f (option_or o p) ≡ option_or (option_map f o) (option_map f p)
map_or f None p = refl
map_or f (Some x) p = refl

next_number : (m n : ℕ) → m + suc n ≡ suc (m + n)
next_number m n = omega arith

pub earliest_split : {A B : Type 0} (f g : ℕ → Option A) (h : ℕ → Option B) (moved : B → A) (m n : ℕ) → ((i : ℕ) → i < m → f i ≡ g i) → ((i : ℕ) → i < n → f (m + i) ≡ option_map moved (h i)) → earliest f (m + n) ≡ option_or (earliest g m) (option_map moved (earliest h n))
unfolding earliest
earliest_split f g h moved m zero first second = rw (add-zero m) (earliest_same f g m first ∙ sym (option_or-none (earliest g m)))
earliest_split f g h moved m (suc n) first second =
    let sooner = earliest_split f g h moved m n first (λ i within. second i (omega arith)) in
    rw (next_number m n)
    (ap (λ o. option_or o (f (m + n))) sooner
    ∙ (ap (λ o. option_or (option_or (earliest g m) (option_map moved (earliest h n))) o) (second n (omega arith))
    ∙ (option_or-assoc (earliest g m) (option_map moved (earliest h n)) (option_map moved (h n))
    ∙ ap (option_or (earliest g m)) (sym (map_or moved (earliest h n) (h n))))))

nothing : {A : Type 0} → ℕ → Option A
nothing i = None

earliest_nothing : {A : Type 0} (m : ℕ) → earliest {A = A} nothing m ≡ None
unfolding earliest nothing
earliest_nothing zero = refl
earliest_nothing {A} (suc m) = ap (λ o. option_or o None) (earliest_nothing {A = A} m)

-- nothing is found in the first part
pub earliest_second : {A B : Type 0} (f : ℕ → Option A) (h : ℕ → Option B) (moved : B → A) (m n : ℕ) → ((i : ℕ) → i < m → f i ≡ None) → ((i : ℕ) → i < n → f (m + i) ≡ option_map moved (h i)) → earliest f (m + n) ≡ option_map moved (earliest h n)
unfolding nothing
earliest_second f h moved m n none second = earliest_split f nothing h moved m n none second ∙ ap (λ o. option_or o (option_map moved (earliest h n))) (earliest_nothing m)

option_map_same : {A : Type 0} (o : Option A) → option_map (λ x. x) o ≡ o
option_map_same None = refl
option_map_same (Some x) = refl

-- the same, if what is found stays as it is
pub earliest_second_same : {A : Type 0} (f h : ℕ → Option A) (m n : ℕ) → ((i : ℕ) → i < m → f i ≡ None) → ((i : ℕ) → i < n → f (m + i) ≡ h i) → earliest f (m + n) ≡ earliest h n
earliest_second_same f h m n none second = earliest_second f h (λ x. x) m n none (λ i within. second i within ∙ sym (option_map_same (h i))) ∙ option_map_same (earliest h n)

pub latest_second : {A : Type 0} (f h : ℕ → Option A) (m n : ℕ) → ((i : ℕ) → i < m → f i ≡ None) → ((i : ℕ) → i < n → f (m + i) ≡ h i) → latest f (m + n) ≡ latest h n
unfolding latest
latest_second f h zero zero none second = refl
latest_second f h (suc m) zero none second =
    let sooner = latest_second f h m zero (λ i within. none i (omega arith)) (λ i within. absurd (omega arith)) in
    rw (add-zero (suc m)) (rw (none m (omega arith)) (rw (add-zero m) at sooner))
latest_second f h m (suc n) none second =
    rw (next_number m n) (ap (λ o. option_or o (latest f (m + n))) (second n (omega arith)) ∙ ap (option_or (h n)) (latest_second f h m n none (λ i within. second i (omega arith))))

pub some_second : (p q : ℕ → Bool) (m n : ℕ) → ((i : ℕ) → i < m → p i ≡ false) → ((i : ℕ) → i < n → p (m + i) ≡ q i) → some_below p (m + n) ≡ some_below q n
unfolding some_below
some_second p q zero zero none second = refl
some_second p q (suc m) zero none second =
    let sooner = some_second p q m zero (λ i within. none i (omega arith)) (λ i within. absurd (omega arith)) in
    rw (add-zero (suc m)) (rw (none m (omega arith)) (rw (or-false (some_below p m)) (rw (add-zero m) at sooner)))
some_second p q m (suc n) none second =
    rw (next_number m n) (ap (λ b. b || p (m + n)) (some_second p q m n none (λ i within. second i (omega arith))) ∙ ap (λ b. some_below q n || b) (second n (omega arith)))

-- ---- numbers of two parts

numbers_split : (a m n : ℕ) → range_with_len a (m + n) ≡ range_with_len a m ++ range_with_len (a + m) n
numbers_split a zero n = rw (zero-add n) (rw (add-zero a) refl)
numbers_split a (suc m) n =
    let moved : (a + 1) + m ≡ a + suc m = omega arith in
    rw (suc-add m n) (ap (λ ks. a ∷ ks) (rw moved at (numbers_split (a + 1) m n)))

numbers_none : (p : ℕ → Bool) (a m : ℕ) → ((k : ℕ) → k < a + m → p k ≡ false) → filter p (range_with_len a m) ≡ []
numbers_none p a zero none = refl
numbers_none p a (suc m) none = rw (none a (omega arith)) (numbers_none p (a + 1) m (λ k less. none k (omega arith)))

numbers_same : (p q : ℕ → Bool) (a n : ℕ) → ((k : ℕ) → a ≤ k → p k ≡ q k) → filter p (range_with_len a n) ≡ filter q (range_with_len a n)
numbers_same p q a zero same = refl
numbers_same p q a (suc n) same = rw (same a (omega arith)) (rw (numbers_same p q (a + 1) n (λ k more. same k (omega arith))) refl)

-- of the first numbers none passes, and the others pass the one test as the other
pub filter_numbers : (p q : ℕ → Bool) (a m n : ℕ) → ((k : ℕ) → k < a + m → p k ≡ false) → ((k : ℕ) → a + m ≤ k → p k ≡ q k) → filter p (range_with_len a (m + n)) ≡ filter q (range_with_len (a + m) n)
filter_numbers p q a m n none same =
    ap (filter p) (numbers_split a m n)
    ∙ (filter-append p (range_with_len a m) (range_with_len (a + m) n)
    ∙ (ap (λ ks. ks ++ filter p (range_with_len (a + m) n)) (numbers_none p a m none)
    ∙ numbers_same p q (a + m) n same))

pub count_numbers : (p q : ℕ → Bool) (a m n : ℕ) → ((k : ℕ) → k < a + m → p k ≡ false) → ((k : ℕ) → a + m ≤ k → p k ≡ q k) → count_by p (range_with_len a (m + n)) ≡ count_by q (range_with_len (a + m) n)
count_numbers p q a m n none same =
    sym (length-filter p (range_with_len a (m + n))) ∙ (ap length (filter_numbers p q a m n none same) ∙ length-filter q (range_with_len (a + m) n))

pub any_numbers : (p q : ℕ → Bool) (a m n : ℕ) → ((k : ℕ) → k < a + m → p k ≡ false) → ((k : ℕ) → a + m ≤ k → p k ≡ q k) → list_any p (range_with_len a (m + n)) ≡ list_any q (range_with_len (a + m) n)
any_numbers p q a m n none same =
    any_counted p (range_with_len a (m + n)) ∙ (ap (nat_lt 0) (count_numbers p q a m n none same) ∙ sym (any_counted q (range_with_len (a + m) n)))
