-- What is asked of completions can be asked of the events.
use Rattle.std.proofs.Common.{[], ℕ, ℤ, ◌++◌, ◌+ℤ◌, ◌+◌, ◌||◌, ◌∙◌, ◌∷◌, ◌≡◌, Bool, List, None, Option, Some, ap, cond, count_by, false, pos, refl, slice_get, sym, take, zero-add}
use Rattle.scope_rules.specs.{Completion, Event, History.History, completion_of, completions, cons_option, filter_map, list_any, option_map_or, passes_at, summand_of_end, total_of}
use Rattle.scope_rules.proofs.Words.{+ℤ_assoc, +ℤ_comm, +ℤ_idr, append-nil, sum_by-append}
use Rattle.scope_rules.proofs.Prefixes.{take_at}

list_any-cons_option : {B : Type 0} (p : B → Bool) (o : Option B) (ys : List B) → list_any p (cons_option o ys) ≡ (option_map_or p o false || list_any p ys)
list_any-cons_option p None ys = refl
list_any-cons_option p (Some y) ys = refl

list_any-filter_map : {A B : Type 0} (p : B → Bool) (f : A → Option B) (xs : List A) → list_any p (filter_map f xs) ≡ list_any (λ x. option_map_or p (f x) false) xs
list_any-filter_map p f [] = refl
list_any-filter_map p f (x ∷ xs) = list_any-cons_option p (f x) (filter_map f xs) ∙ ap (λ b. option_map_or p (f x) false || b) (list_any-filter_map p f xs)

pub count_by-cons : {A : Type 0} (p : A → Bool) (x : A) (xs : List A) → count_by p (x ∷ xs) ≡ cond (p x) 1 0 + count_by p xs
count_by-cons p x xs = sum_by-append (λ y. cond (p y) 1 0) (x ∷ []) xs ∙ ap (λ n. n + count_by p xs) (zero-add (cond (p x) 1 0))

count_by-cons_option : {B : Type 0} (p : B → Bool) (o : Option B) (ys : List B) → count_by p (cons_option o ys) ≡ cond (option_map_or p o false) 1 0 + count_by p ys
count_by-cons_option p None ys = sym (zero-add _)
count_by-cons_option p (Some y) ys = count_by-cons p y ys

count_by-filter_map : {A B : Type 0} (p : B → Bool) (f : A → Option B) (xs : List A) → count_by p (filter_map f xs) ≡ count_by (λ x. option_map_or p (f x) false) xs
count_by-filter_map p f [] = refl
count_by-filter_map p f (x ∷ xs) =
    count_by-cons_option p (f x) (filter_map f xs)
    ∙ ap (λ n. cond (option_map_or p (f x) false) 1 0 + n) (count_by-filter_map p f xs)
    ∙ sym (count_by-cons (λ x. option_map_or p (f x) false) x xs)

-- the sum grows by one completion at the end
pub total_of-push : (ds : List Completion) (d : Completion) → total_of (ds ++ d ∷ []) ≡ total_of ds +ℤ summand_of_end d.end
unfolding total_of
total_of-push [] d = +ℤ_comm (summand_of_end d.end) (pos 0)
total_of-push (x ∷ ds) d = ap (λ z. summand_of_end x.end +ℤ z) (total_of-push ds d) ∙ sym (+ℤ_assoc (summand_of_end x.end) (total_of ds) (summand_of_end d.end))

cons_option-append : {B : Type 0} (o : Option B) (xs ys : List B) → cons_option o (xs ++ ys) ≡ cons_option o xs ++ ys
cons_option-append None xs ys = refl
cons_option-append (Some x) xs ys = refl

pub filter_map-push : {A B : Type 0} (f : A → Option B) (xs : List A) (x : A) → filter_map f (xs ++ x ∷ []) ≡ filter_map f xs ++ cons_option (f x) []
filter_map-push f [] x = refl
filter_map-push f (y ∷ ys) x = ap (cons_option (f y)) (filter_map-push f ys x) ∙ cons_option-append (f y) (filter_map f ys) (cons_option (f x) [])

abbrev pub added : Option Completion → ℤ
added o = option_map_or (λ d. summand_of_end d.end) o (pos 0)

total_of-push_option : (ds : List Completion) (o : Option Completion) → total_of (ds ++ cons_option o []) ≡ total_of ds +ℤ added o
total_of-push_option ds None = ap total_of (append-nil ds) ∙ sym (+ℤ_idr (total_of ds))
total_of-push_option ds (Some d) = total_of-push ds d

-- the sum of what the events so far completed grows by what the next one adds
pub total_at : (h : History) (s i : ℕ) (e : Event) → slice_get h.events i ≡ Some e
    → total_of (filter_map (completion_of h s) (take (i + 1) h.events)) ≡ total_of (filter_map (completion_of h s) (take i h.events)) +ℤ added (completion_of h s e)
total_at h s i e at =
    ap (λ es. total_of (filter_map (completion_of h s) es)) (take_at h.events i e at)
    ∙ (ap total_of (filter_map-push (completion_of h s) (take i h.events) e)
    ∙ total_of-push_option (filter_map (completion_of h s) (take i h.events)) (completion_of h s e))

pub any_completion : (p : Completion → Bool) (h : History) (s : ℕ) → list_any (passes_at p h s) h.events ≡ list_any p (completions h s)
unfolding completions
any_completion p h s = sym (list_any-filter_map p (completion_of h s) h.events)

pub count_completions : (p : Completion → Bool) (h : History) (s : ℕ) → count_by (passes_at p h s) h.events ≡ count_by p (completions h s)
unfolding completions
count_completions p h s = sym (count_by-filter_map p (completion_of h s) h.events)
