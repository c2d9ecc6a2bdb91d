-- What searches find.
use Rattle.std.specs.Prelude.{◌+◌, ◌<◌, ◌||◌, ◌∷◌, ◌≡◌, ◌≤◌}
use Rattle.refusal_reasons.specs.{[], ℕ, Bool, History, List, None, Some, earliest, false, find, first_place, forked_count, is_task_of, length, list_any, option_or, place_if}
use Rattle.refusal_reasons.specs.{position, position_from, slice_get, suc, take, task_numbers, tasks, tasks_of, true, zero}
use Rattle.std.proofs.lemmas.List.Folds.{find-append}
use Rattle.refusal_reasons.proofs.Lemmas.{◌∙◌, ap, arith, cond, count_by-le-length, earliest_found, false_from_ne_true, length-filter, length-range_with_len, position_from-zero, refl, sym, take_at}
use Rattle.refusal_reasons.proofs.Lemmas.{take_whole}

-- ---- places

none_below : (test : ℕ → Bool) (n : ℕ) → ((i : ℕ) → test i ≡ true → n ≤ i) → first_place test n ≡ None
unfolding first_place earliest
none_below test zero late = refl
none_below test (suc n) late =
    let sooner = none_below test n (λ i holds. omega (arith, late i holds)) in
    let fails : test n ≡ false = false_from_ne_true (test n) (λ holds. absurd (omega (arith, late n holds))) in
    rw sooner (ap (λ b. cond b (Some n) None) fails)

-- the test holds of the place, and of none before it
pub first_is : (test : ℕ → Bool) (i n : ℕ) → test i ≡ true → ((j : ℕ) → test j ≡ true → i ≤ j) → i < n → first_place test n ≡ Some i
unfolding first_place
first_is test i n holds least within = earliest_found (place_if test) i i n (none_below test i least) (ap (λ b. cond b (Some i) None) holds) within

-- the test holds of no place
pub first_is_none : (test : ℕ → Bool) (n : ℕ) → ((i : ℕ) → test i ≡ true → ⊥) → first_place test n ≡ None
first_is_none test n never = none_below test n (λ i holds. absurd (never i holds))

-- ---- the first element that passes

found_from : {A : Type 0} (p : A → Bool) (xs : List A) (n i : ℕ) (x : A) → slice_get xs i ≡ Some x → list_any p (take i xs) ≡ false → p x ≡ true → position_from p n xs ≡ Some (n + i)
found_from p [] n i x at none holds = absurd cc
found_from p (y ∷ ys) n zero x at none holds = let same : y ≡ x = cc in rw same (ap (λ b. cond b (Some n) (position_from p (n + 1) ys)) holds ∙ ap Some (omega arith))
found_from p (y ∷ ys) n (suc i) x at none holds = by (p y) none (λ rest. found_from p ys (n + 1) i x at rest holds ∙ ap Some (omega arith))
  where
    by : (b : Bool) → (b || list_any p (take i ys)) ≡ false → (list_any p (take i ys) ≡ false → position_from p (n + 1) ys ≡ Some (n + suc i)) → cond b (Some n) (position_from p (n + 1) ys) ≡ Some (n + suc i)
    by true none more = absurd cc
    by false none more = more none

-- the first that passes
pub position_found : {A : Type 0} (p : A → Bool) (xs : List A) (i : ℕ) (x : A) → slice_get xs i ≡ Some x → list_any p (take i xs) ≡ false → p x ≡ true → position p xs ≡ Some i
position_found p xs i x at none holds = position_from-zero p xs ∙ (found_from p xs 0 i x at none holds ∙ ap Some (omega arith))

-- ---- elements

few_tasks : (h : History) (s : ℕ) → length (tasks_of h s) ≤ tasks h
unfolding tasks_of
few_tasks h s = omega (arith, length-filter (is_task_of h s) (task_numbers h), count_by-le-length (is_task_of h s) (task_numbers h), length-range_with_len (h.base.tasks + 1) (forked_count h))

-- one more that does not pass
pub find_passed : {A : Type 0} (p : A → Bool) (xs : List A) (i : ℕ) (x : A) → slice_get xs i ≡ Some x → find p (take i xs) ≡ None → p x ≡ false → find p (take (i + 1) xs) ≡ None
find_passed p xs i x at none fails = ap (find p) (take_at xs i x at) ∙ (find-append p (take i xs) (x ∷ []) ∙ (ap (λ o. option_or o (find p (x ∷ []))) none ∙ ap (λ b. cond b (Some x) None) fails))

-- the first that passes
pub find_found : {A : Type 0} (p : A → Bool) (xs : List A) (i : ℕ) (x : A) → slice_get xs i ≡ Some x → find p (take i xs) ≡ None → p x ≡ true → find p xs ≡ Some x
find_found p [] i x at none holds = absurd cc
find_found p (y ∷ ys) zero x at none holds = let same : y ≡ x = cc in rw same (ap (λ b. cond b (Some x) (find p ys)) holds)
find_found p (y ∷ ys) (suc i) x at none holds = by (p y) none (λ rest. find_found p ys i x at rest holds)
  where
    by : (b : Bool) → cond b (Some y) (find p (take i ys)) ≡ None → (find p (take i ys) ≡ None → find p ys ≡ Some x) → cond b (Some y) (find p ys) ≡ Some x
    by true none more = absurd cc
    by false none more = more none

-- if the place has come to the number of all tasks, all tasks of the scope were passed
pub all_passed : (p : ℕ → Bool) (h : History) (s i : ℕ) → tasks h ≤ i → find p (take i (tasks_of h s)) ≡ None → find p (tasks_of h s) ≡ None
all_passed p h s i all none = ap (find p) (sym (take_whole (tasks_of h s) i (omega (arith, all, few_tasks h s)))) ∙ none
