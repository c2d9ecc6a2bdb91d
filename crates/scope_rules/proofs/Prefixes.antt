-- Prefixes of lists and of histories, and how what is computed of them grows by one element.
use Rattle.std.proofs.Common.{[], ℕ, ◌++◌, ◌+◌, ◌<◌, ◌∙◌, ◌∷◌, ◌≡◌, ◌≤◌, Bool, List, None, Option, Some, add-one, ap, arith, cond, count_by, false, length, refl, slice_get, suc, sym, take, true, zero}
use Rattle.scope_rules.specs.{HasSmallNumbers, History.History, before, is_fork, is_open, last_of, option_or, sum_by}
use Rattle.scope_rules.proofs.Words.{length-take, sum_by-append, sum_by-take-le, take_all}

pub count_by-take-le : {X : Type 0} (p : X → Bool) (xs : List X) (i : ℕ) → count_by p (take i xs) ≤ count_by p xs
count_by-take-le p xs i = sum_by-take-le (λ x. cond (p x) 1 0) xs i

-- a prefix has small numbers too
pub small_before : (h : History) (i : ℕ) → HasSmallNumbers h → HasSmallNumbers (before h i)
small_before h i small = record {
  events = rw length-take (omega (arith, small.events));
  scopes = omega (arith, small.scopes, count_by-take-le is_open h.events i);
  tasks = omega (arith, small.tasks, count_by-take-le is_fork h.events i);
}

-- a prefix that is longer by one ends with the element there
pub take_at : {A : Type 0} (xs : List A) (i : ℕ) (x : A) → slice_get xs i ≡ Some x → take (i + 1) xs ≡ take i xs ++ x ∷ []
take_at [] i x at = absurd cc
take_at (y ∷ ys) zero x at = let same : y ≡ x = cc in rw same refl
take_at (y ∷ ys) (suc i) x at = rw add-one (ap (λ w. y ∷ w) (rw add-one at (take_at ys i x at)))

pub count_by_at : {A : Type 0} (p : A → Bool) (xs : List A) (i : ℕ) (x : A) → slice_get xs i ≡ Some x → count_by p (take (i + 1) xs) ≡ count_by p (take i xs) + cond (p x) 1 0
count_by_at p xs i x at = ap (count_by p) (take_at xs i x at) ∙ (sum_by-append (λ y. cond (p y) 1 0) (take i xs) (x ∷ []) ∙ omega arith)

pub count_by_at_no : {A : Type 0} (p : A → Bool) (xs : List A) (i : ℕ) (x : A) → slice_get xs i ≡ Some x → p x ≡ false → count_by p (take (i + 1) xs) ≡ count_by p (take i xs)
count_by_at_no p xs i x at fails = count_by_at p xs i x at ∙ (ap (λ b. count_by p (take i xs) + cond b 1 0) fails ∙ omega arith)

pub count_by_at_yes : {A : Type 0} (p : A → Bool) (xs : List A) (i : ℕ) (x : A) → slice_get xs i ≡ Some x → p x ≡ true → count_by p (take (i + 1) xs) ≡ count_by p (take i xs) + 1
count_by_at_yes p xs i x at y = count_by_at p xs i x at ∙ ap (λ b. count_by p (take i xs) + cond b 1 0) y

pub option_or-none : {A : Type 0} (o : Option A) → option_or o None ≡ o
option_or-none None = refl
option_or-none (Some x) = refl

pub option_or-assoc : {A : Type 0} (o p q : Option A) → option_or (option_or o p) q ≡ option_or o (option_or p q)
option_or-assoc None p q = refl
option_or-assoc (Some x) p q = refl

pub last_of-push : {A B : Type 0} (f : A → Option B) (xs : List A) (x : A) → last_of f (xs ++ x ∷ []) ≡ option_or (f x) (last_of f xs)
unfolding last_of
last_of-push f [] x = sym (option_or-none (f x))
last_of-push f (y ∷ ys) x = rw (last_of-push f ys x) (option_or-assoc (f x) (last_of f ys) (f y))

pub last_of_at : {A B : Type 0} (f : A → Option B) (xs : List A) (i : ℕ) (x : A) → slice_get xs i ≡ Some x → last_of f (take (i + 1) xs) ≡ option_or (f x) (last_of f (take i xs))
last_of_at f xs i x at = ap (last_of f) (take_at xs i x at) ∙ last_of-push f (take i xs) x

pub take_whole : {A : Type 0} (xs : List A) (i : ℕ) → length xs ≤ i → take i xs ≡ xs
take_whole xs i all = take_all i xs all

-- the same, if the search so far is known
pub last_of_more : {A B : Type 0} (f : A → Option B) (xs : List A) (i : ℕ) (x : A) (last : Option B) → slice_get xs i ≡ Some x → last ≡ last_of f (take i xs) → option_or (f x) last ≡ last_of f (take (i + 1) xs)
last_of_more f xs i x last at so = ap (option_or (f x)) so ∙ sym (last_of_at f xs i x at)

pub sum_by_more : {A : Type 0} (f : A → ℕ) (xs : List A) (i : ℕ) (x : A) → slice_get xs i ≡ Some x → sum_by f (take (i + 1) xs) ≡ sum_by f (take i xs) + f x
sum_by_more f xs i x at = ap (sum_by f) (take_at xs i x at) ∙ (sum_by-append f (take i xs) (x ∷ []) ∙ omega arith)

-- an element stays if one is put behind it
pub get_push : {A : Type 0} (xs : List A) (x : A) (i : ℕ) → i < length xs → slice_get (xs ++ x ∷ []) i ≡ slice_get xs i
get_push [] x i within = absurd (omega arith)
get_push (y ∷ xs) x zero within = refl
get_push (y ∷ xs) x (suc i) within = get_push xs x i (omega arith)
