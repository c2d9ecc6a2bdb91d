-- Counting tickets, and the tasks of a scope one after the other.
use Rattle.std.proofs.Common.{[], ℕ, ◌&&◌, ◌+◌, ◌<◌, ◌==◌, ◌||◌, ◌∙◌, ◌∷◌, ◌≡◌, ◌≤◌, All, Bool, List, None, Option, Some, ap, arith, cond, count_by, false, refl, slice_get, subst, suc, sym, take, true, zero}
use Rattle.realm_core.specs.{Forking, History, filter, forked_count, forking, is_task_of, list_any, option_map_or, range_with_len, task_numbers, tasks_of}
use Rattle.realm_core.proofs.Words.{All-cons, add-one, any-filter_same, count_by-cons, eq-eqb, eqb-true, forked_after, get_or_from_slice_get, ne_eqb, slice_get_within}

-- ---- counts

count_suc : {A : Type 0} (p : A → Bool) (xs : List A) (n : ℕ) (x : A) → slice_get xs n ≡ Some x → count_by p (take (suc n) xs) ≡ count_by p (take n xs) + cond (p x) 1 0
count_suc p [] n x at = absurd cc
count_suc p (y ∷ ys) zero x at =
    let same : y ≡ x = cc in
    count_by-cons p y [] ∙ (ap (λ z. cond (p z) 1 0 + 0) same ∙ omega arith)
count_suc p (y ∷ ys) (suc n) x at = omega (arith, count_by-cons p y (take (suc n) ys), count_by-cons p y (take n ys), count_suc p ys n x at)

-- one more
pub count_one_more : {A : Type 0} (p : A → Bool) (xs : List A) (n : ℕ) (x : A) → slice_get xs n ≡ Some x → count_by p (take (n + 1) xs) ≡ count_by p (take n xs) + cond (p x) 1 0
count_one_more p xs n x at = ap (λ m. count_by p (take m xs)) (add-one n) ∙ count_suc p xs n x at

-- if none comes later, the first are all
pub count_first : {A : Type 0} (p : A → Bool) (xs : List A) (n : ℕ) → ((i : ℕ) (x : A) → n ≤ i → slice_get xs i ≡ Some x → p x ≡ false) → count_by p xs ≡ count_by p (take n xs)
count_first p [] zero none = refl
count_first p [] (suc n) none = refl
count_first p (x ∷ xs) zero none =
    count_by-cons p x xs
    ∙ (ap (λ b. cond b 1 0 + count_by p xs) (none 0 x (omega arith) refl)
    ∙ (omega arith ∙ count_first p xs zero (λ i y from at. none (suc i) y (omega arith) at)))
count_first p (x ∷ xs) (suc n) none =
    count_by-cons p x xs
    ∙ (ap (λ m. cond (p x) 1 0 + m) (count_first p xs n (λ i y from at. none (suc i) y (omega (arith, from)) at)) ∙ sym (count_by-cons p x (take n xs)))

-- the first are no more than all
pub count_up_to : {A : Type 0} (p : A → Bool) (xs : List A) (n : ℕ) → count_by p (take n xs) ≤ count_by p xs
count_up_to p [] zero = omega arith
count_up_to p [] (suc n) = omega arith
count_up_to p (x ∷ xs) zero = omega arith
count_up_to p (x ∷ xs) (suc n) = omega (arith, count_by-cons p x xs, count_by-cons p x (take n xs), count_up_to p xs n)

pub all_head : {A : Type 0} (P : A → Type 0) (x : A) (xs : List A) → All P (x ∷ xs) → P x
all_head P x xs all = all 0 x (omega arith)

pub all_tail : {A : Type 0} (P : A → Type 0) (x : A) (xs : List A) → All P (x ∷ xs) → All P xs
all_tail P x xs all k d under = all (suc k) d (omega (arith, under))

all_suc : {A : Type 0} (P : A → Type 0) (xs : List A) (n : ℕ) (x : A) → All P (take n xs) → slice_get xs n ≡ Some x → P x → All P (take (suc n) xs)
all_suc P [] n x all at it = absurd cc
all_suc P (y ∷ ys) zero x all at it = let same : x ≡ y = cc in All-cons P y [] (subst P same it) (λ k d under. absurd (omega (arith, under)))
all_suc P (y ∷ ys) (suc n) x all at it = All-cons P y (take (suc n) ys) (all_head P y (take n ys) all) (all_suc P ys n x (all_tail P y (take n ys) all) at it)

pub all_one_more : {A : Type 0} (P : A → Type 0) (xs : List A) (n : ℕ) (x : A) → All P (take n xs) → slice_get xs n ≡ Some x → P x → All P (take (n + 1) xs)
all_one_more P xs n x all at it = subst (λ m. All P (take m xs)) (sym (add-one n)) (all_suc P xs n x all at it)

pub all_at : {A : Type 0} (P : A → Type 0) (xs : List A) (n : ℕ) (x : A) → All P xs → slice_get xs n ≡ Some x → P x
all_at P xs n x all at = subst P (get_or_from_slice_get xs n x x at) (all n x (slice_get_within xs n x at))

-- ---- the tasks of a scope

or_nothing : (b : Bool) → (b || false) ≡ b
or_nothing true = refl
or_nothing false = refl

regroup : (a b c : Bool) → (a || (b || c)) ≡ ((a || b) || c)
regroup true b c = refl
regroup false b c = refl

-- whether the number is among these
abbrev pub is_among : List ℕ → ℕ → Bool
is_among ks k = list_any (λ m. m == k) ks

among_suc : (ks : List ℕ) (i m k : ℕ) → slice_get ks i ≡ Some m → is_among (take (suc i) ks) k ≡ (is_among (take i ks) k || (m == k))
among_suc [] i m k at = absurd cc
among_suc (n ∷ ns) zero m k at = let same : n ≡ m = cc in or_nothing (n == k) ∙ ap (λ x. x == k) same
among_suc (n ∷ ns) (suc i) m k at = ap (λ b. (n == k) || b) (among_suc ns i m k at) ∙ regroup (n == k) (is_among (take i ns) k) (m == k)

pub among_one_more : (ks : List ℕ) (i m k : ℕ) → slice_get ks i ≡ Some m → is_among (take (i + 1) ks) k ≡ (is_among (take i ks) k || (m == k))
among_one_more ks i m k at = ap (λ n. is_among (take n ks) k) (add-one i) ∙ among_suc ks i m k at

passes_by : (p : ℕ → Bool) (n : ℕ) (ns : List ℕ) (k : ℕ) (b : Bool) → p n ≡ b → ((i : ℕ) → slice_get ns i ≡ Some k → p k ≡ true) → (i : ℕ) → slice_get (cond b (n ∷ ns) ns) i ≡ Some k → p k ≡ true
passes_by p n ns k true is rest zero at = let same : n ≡ k = cc in ap p (sym same) ∙ is
passes_by p n ns k true is rest (suc i) at = rest i at
passes_by p n ns k false is rest i at = rest i at

found_passes : (p : ℕ → Bool) (ks : List ℕ) (j k : ℕ) → slice_get (filter p ks) j ≡ Some k → p k ≡ true
found_passes p [] j k at = absurd cc
found_passes p (n ∷ ns) j k at = passes_by p n (filter p ns) k (p n) refl (λ i there. found_passes p ns i k there) j at

from_by : (a k : ℕ) (ns : List ℕ) (b : Bool) → ((i : ℕ) → slice_get ns i ≡ Some k → a + 1 ≤ k) → (i : ℕ) → slice_get (cond b (a ∷ ns) ns) i ≡ Some k → a ≤ k
from_by a k ns true rest zero at = let same : a ≡ k = cc in omega (arith, same)
from_by a k ns true rest (suc i) at = let above = rest i at in omega (arith, above)
from_by a k ns false rest i at = let above = rest i at in omega (arith, above)

found_from : (p : ℕ → Bool) (a n j k : ℕ) → slice_get (filter p (range_with_len a n)) j ≡ Some k → a ≤ k
found_from p a zero j k at = absurd cc
found_from p a (suc n) j k at = from_by a k (filter p (range_with_len (a + 1) n)) (p a) (λ i there. found_from p (a + 1) n i k there) j at

once_by : (a k : ℕ) (ns : List ℕ) (b : Bool) → ((i : ℕ) → slice_get ns i ≡ Some k → a + 1 ≤ k) → ((i : ℕ) → slice_get ns i ≡ Some k → is_among (take i ns) k ≡ false)
    → (i : ℕ) → slice_get (cond b (a ∷ ns) ns) i ≡ Some k → is_among (take i (cond b (a ∷ ns) ns)) k ≡ false
once_by a k ns true above rest zero at = refl
once_by a k ns true above rest (suc i) at = ap (λ b. b || is_among (take i ns) k) (ne_eqb a k (λ same. omega (arith, same, above i at))) ∙ rest i at
once_by a k ns false above rest i at = rest i at

-- each stands there once
once : (p : ℕ → Bool) (a n j k : ℕ) → slice_get (filter p (range_with_len a n)) j ≡ Some k → is_among (take j (filter p (range_with_len a n))) k ≡ false
once p a zero j k at = absurd cc
once p a (suc n) j k at = once_by a k (filter p (range_with_len (a + 1) n)) (p a) (λ i there. found_from p (a + 1) n i k there) (λ i there. once p (a + 1) n i k there) j at

pub task_once : (h : History) (s j k : ℕ) → slice_get (tasks_of h s) j ≡ Some k → is_among (take j (tasks_of h s)) k ≡ false
unfolding tasks_of
task_once h s j k at = once (is_task_of h s) (h.base.tasks + 1) (forked_count h) j k at

pub task_is : (h : History) (s j k : ℕ) → slice_get (tasks_of h s) j ≡ Some k → is_task_of h s k ≡ true
unfolding tasks_of
task_is h s j k at = found_passes (is_task_of h s) (task_numbers h) j k at

in_range : (a n i k : ℕ) → i < n → a + i ≡ k → is_among (range_with_len a n) k ≡ true
in_range a zero i k under is = absurd (omega (arith, under))
in_range a (suc n) zero k under is = ap (λ b. b || is_among (range_with_len (a + 1) n) k) (eq-eqb a k (omega (arith, is)))
in_range a (suc n) (suc i) k under is = ap (λ b. (a == k) || b) (in_range (a + 1) n i k (omega (arith, under)) (omega (arith, is))) ∙ or_yes (a == k)
  where
    or_yes : (b : Bool) → (b || true) ≡ true
    or_yes true = refl
    or_yes false = refl

-- a task is among those of the scope if it was forked there
pub among_tasks : (h : History) (s k : ℕ) → is_among (tasks_of h s) k ≡ is_task_of h s k
unfolding tasks_of is_task_of
among_tasks h s k =
    any-filter_same (λ m. m == k) (is_task_of h s) (is_task_of h s k) (λ m is. ap (is_task_of h s) (eqb-true m k is)) (task_numbers h) ∙ by (is_task_of h s k) refl
  where
    there : (o : Option Forking) → forking h k ≡ o → option_map_or (λ f. f.scope == s) o false ≡ true → is_among (task_numbers h) k ≡ true
    there None is of = absurd cc
    there (Some f) is of = let it = forked_after h k f is in in_range (h.base.tasks + 1) (forked_count h) it.0 k it.1 it.2

    by : (b : Bool) → is_task_of h s k ≡ b → (b && is_among (task_numbers h) k) ≡ b
    by true is = there (forking h k) refl is
    by false is = refl
