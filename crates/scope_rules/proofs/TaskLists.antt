-- The lists that a join answers of the tasks that pass a test: by another account of their states, and one
-- task more.
use Rattle.std.proofs.Common.{[], ℕ, ◌++◌, ◌+◌, ◌∙◌, ◌∷◌, ◌≡◌, Bool, List, None, Some, ap, cond, false, refl, true}
use Rattle.scope_rules.specs.{State, cons_option, entry_in, filter, listing_by, range_with_len, value_in, values_by}
use Rattle.scope_rules.proofs.Words.{filter-append, filter_map-append, map-append}
use Rattle.scope_rules.proofs.Numbers.{range_push}

module _ (p : ℕ → Bool) (x y : ℕ → State) (same : (k : ℕ) → p k ≡ true → x k ≡ y k) where
  pub values_same : (ks : List ℕ) → values_by x (filter p ks) ≡ values_by y (filter p ks)
  values_same [] = refl
  values_same (k ∷ ks) = by (p k) refl (values_same ks)
    where
      by : (b : Bool) → p k ≡ b → values_by x (filter p ks) ≡ values_by y (filter p ks) → values_by x (cond b (k ∷ filter p ks) (filter p ks)) ≡ values_by y (cond b (k ∷ filter p ks) (filter p ks))
      by true is rest = ap (λ st. cons_option (value_in k st) (values_by x (filter p ks))) (same k is) ∙ ap (cons_option (value_in k (y k))) rest
      by false is rest = rest

  pub listing_same : (ks : List ℕ) → listing_by x (filter p ks) ≡ listing_by y (filter p ks)
  listing_same [] = refl
  listing_same (k ∷ ks) = by (p k) refl (listing_same ks)
    where
      by : (b : Bool) → p k ≡ b → listing_by x (filter p ks) ≡ listing_by y (filter p ks) → listing_by x (cond b (k ∷ filter p ks) (filter p ks)) ≡ listing_by y (cond b (k ∷ filter p ks) (filter p ks))
      by true is rest = ap (λ st. entry_in k st ∷ listing_by x (filter p ks)) (same k is) ∙ ap (λ xs. entry_in k (y k) ∷ xs) rest
      by false is rest = rest

filter_more : (p : ℕ → Bool) (a n : ℕ) → filter p (range_with_len a (n + 1)) ≡ filter p (range_with_len a n) ++ cond (p (a + n)) ((a + n) ∷ []) []
filter_more p a n = ap (filter p) (range_push a n) ∙ filter-append p (range_with_len a n) ((a + n) ∷ [])

pub values_more : (p : ℕ → Bool) (x : ℕ → State) (a n : ℕ) → values_by x (filter p (range_with_len a (n + 1))) ≡ values_by x (filter p (range_with_len a n)) ++ cons_option (cond (p (a + n)) (value_in (a + n) (x (a + n))) None) []
values_more p x a n = ap (values_by x) (filter_more p a n) ∙ (filter_map-append (λ k. value_in k (x k)) (filter p (range_with_len a n)) _ ∙ ap (λ ys. values_by x (filter p (range_with_len a n)) ++ ys) (by (p (a + n))))
  where
    by : (b : Bool) → values_by x (cond b ((a + n) ∷ []) []) ≡ cons_option (cond b (value_in (a + n) (x (a + n))) None) []
    by true = refl
    by false = refl

pub listing_more : (p : ℕ → Bool) (x : ℕ → State) (a n : ℕ) → listing_by x (filter p (range_with_len a (n + 1))) ≡ listing_by x (filter p (range_with_len a n)) ++ cons_option (cond (p (a + n)) (Some (entry_in (a + n) (x (a + n)))) None) []
listing_more p x a n = ap (listing_by x) (filter_more p a n) ∙ (map-append (λ k. entry_in k (x k)) (filter p (range_with_len a n)) _ ∙ ap (λ ys. listing_by x (filter p (range_with_len a n)) ++ ys) (by (p (a + n))))
  where
    by : (b : Bool) → listing_by x (cond b ((a + n) ∷ []) []) ≡ cons_option (cond b (Some (entry_in (a + n) (x (a + n)))) None) []
    by true = refl
    by false = refl
