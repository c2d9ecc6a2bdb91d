-- What is asked of a range of numbers, one number more.
use Rattle.std.proofs.Common.{[], ℕ, ◌++◌, ◌+◌, ◌||◌, ◌∙◌, ◌∷◌, ◌≡◌, Bool, List, Option, add-one, add-zero, ap, arith, cond, count_by, false, refl, suc, sym, true, zero}
use Rattle.scope_rules.specs.{cons_option, filter_map, list_any, range_with_len}
use Rattle.scope_rules.proofs.Words.{sum_by-append}
use Rattle.scope_rules.proofs.Completions.{filter_map-push}

-- one number more stands at the end
pub range_push : (a n : ℕ) → range_with_len a (n + 1) ≡ range_with_len a n ++ (a + n) ∷ []
range_push a zero = ap (λ m. m ∷ []) (sym (add-zero a))
range_push a (suc n) =
    let moved : (a + 1) + n ≡ a + suc n = omega arith in
    rw (add-one (suc n)) (ap (λ xs. a ∷ xs) (rw (add-one n) at (range_push (a + 1) n) ∙ ap (λ m. range_with_len (a + 1) n ++ m ∷ []) moved))

or_false : (b : Bool) → (b || false) ≡ b
or_false true = refl
or_false false = refl

or_assoc : (a b c : Bool) → (a || (b || c)) ≡ ((a || b) || c)
or_assoc true b c = refl
or_assoc false b c = refl

pub list_any-push : {A : Type 0} (p : A → Bool) (xs : List A) (x : A) → list_any p (xs ++ x ∷ []) ≡ (list_any p xs || p x)
list_any-push p [] x = or_false (p x)
list_any-push p (y ∷ ys) x = ap (λ b. p y || b) (list_any-push p ys x) ∙ or_assoc (p y) (list_any p ys) (p x)

pub count_by_range : (p : ℕ → Bool) (a n : ℕ) → count_by p (range_with_len a (n + 1)) ≡ count_by p (range_with_len a n) + cond (p (a + n)) 1 0
count_by_range p a n = ap (count_by p) (range_push a n) ∙ sum_by-append (λ y. cond (p y) 1 0) (range_with_len a n) ((a + n) ∷ []) ∙ omega arith

pub list_any_range : (p : ℕ → Bool) (a n : ℕ) → list_any p (range_with_len a (n + 1)) ≡ (list_any p (range_with_len a n) || p (a + n))
list_any_range p a n = ap (list_any p) (range_push a n) ∙ list_any-push p (range_with_len a n) (a + n)

pub filter_map_range : {B : Type 0} (f : ℕ → Option B) (a n : ℕ) → filter_map f (range_with_len a (n + 1)) ≡ filter_map f (range_with_len a n) ++ cons_option (f (a + n)) []
filter_map_range f a n = ap (filter_map f) (range_push a n) ∙ filter_map-push f (range_with_len a n) (a + n)
