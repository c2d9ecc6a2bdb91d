-- A search finds something just if a test says that there is something.
use Rattle.std.specs.Prelude.{◌&&◌, ◌+◌, ◌||◌, ◌∷◌, ◌≡◌}
use Rattle.refusal_reasons.specs.{[], ℕ, Bool, History, List, None, Option, Some, closed, closed_place, closing, closing_at, closing_place, earliest, ends, false, filter}
use Rattle.refusal_reasons.specs.{find, first_place, innermost, is_pending, is_some, is_task_of, joined, joined_place, joins, length, list_any, nat_lt, not, option_or, pending_task, place_if}
use Rattle.refusal_reasons.specs.{position, position_or_len, settled, some_below, suc, task_numbers, tasks_of, true, zero}
use Rattle.refusal_reasons.proofs.Lemmas.{◌∙◌, ap, arith, cond, innermost_unclosed, lt-ltb, nat_tests, refl, sym}

moved : (m n : ℕ) → nat_lt m n ≡ nat_lt (1 + m) (suc n)
moved m n = grind (arith, nat_tests)

any_within : {A : Type 0} (p : A → Bool) (xs : List A) → list_any p xs ≡ nat_lt (position_or_len p xs) (length xs)
any_within p [] = refl
any_within p (x ∷ xs) = by (p x) (any_within p xs)
  where
    by : (b : Bool) → list_any p xs ≡ nat_lt (position_or_len p xs) (length xs) → (b || list_any p xs) ≡ nat_lt (cond (not b) (1 + position_or_len p xs) 0) (suc (length xs))
    by true so = sym (lt-ltb 0 (suc (length xs)) (omega arith))
    by false so = so ∙ moved (position_or_len p xs) (length xs)

any_is_found : {A : Type 0} (p : A → Bool) (xs : List A) → list_any p xs ≡ is_some (position p xs)
any_is_found p xs = any_within p xs ∙ by (nat_lt (position_or_len p xs) (length xs))
  where
    by : (b : Bool) → b ≡ is_some (cond b (Some (position_or_len p xs)) None)
    by true = refl
    by false = refl

pub joined_is : (h : History) (s : ℕ) → joined h s ≡ is_some (joined_place h.events s)
unfolding joined
joined_is h s = any_is_found (joins s) h.events

pub closed_is : (h : History) (s : ℕ) → closed h s ≡ is_some (closed_place h.events s)
unfolding closed
closed_is h s = any_is_found (ends s) h.events

-- the test holds of some place just if there is a first
some_is_first : (test : ℕ → Bool) (n : ℕ) → some_below test n ≡ is_some (first_place test n)
unfolding some_below first_place earliest
some_is_first test zero = refl
some_is_first test (suc n) = by (earliest (place_if test) n) (test n) (some_is_first test n)
  where
    by : (o : Option ℕ) (b : Bool) → some_below test n ≡ is_some o → (some_below test n || b) ≡ is_some (option_or o (cond b (Some n) None))
    by None true so = rw so refl
    by None false so = rw so refl
    by (Some i) b so = rw so refl

pub closing_is : (h : History) (s : ℕ) → closing h s ≡ is_some (closing_place h s)
unfolding closing closing_place
closing_is h s = some_is_first (closing_at h s) (length h.events)

any_is_in_filter : (p q : ℕ → Bool) (xs : List ℕ) → list_any (λ x. p x && q x) xs ≡ is_some (find q (filter p xs))
any_is_in_filter p q [] = refl
any_is_in_filter p q (x ∷ xs) = by (p x) (q x) refl (any_is_in_filter p q xs)
  where
    by : (b c : Bool) → q x ≡ c → list_any (λ y. p y && q y) xs ≡ is_some (find q (filter p xs)) → ((b && c) || list_any (λ y. p y && q y) xs) ≡ is_some (find q (cond b (x ∷ filter p xs) (filter p xs)))
    by true true is so = sym (ap (λ d. is_some (cond d (Some x) (find q (filter p xs)))) is)
    by true false is so = so ∙ sym (ap (λ d. is_some (cond d (Some x) (find q (filter p xs)))) is)
    by false c is so = so

pub settled_is : (h : History) (s : ℕ) → settled h s ≡ not (is_some (pending_task h s))
unfolding settled pending_task tasks_of
settled_is h s = ap not (any_is_in_filter (is_task_of h s) (is_pending h) (task_numbers h))

-- an actor's innermost scope is not closed
pub innermost_live : (h : History) (a s : ℕ) → innermost h a ≡ Some s → closed h s ≡ false
innermost_live h a s is = (innermost_unclosed h a s is).unclosed
