-- What a part of the tree has, one number after the other.
use Rattle.std.proofs.Common.{[], ℕ, ◌++◌, ◌+◌, ◌∙◌, ◌∷◌, ◌≡◌, Bool, List, Some, ap, append-nil, cond, count_by, false, refl, slice_get, sym, take, true}
use Rattle.tree_dump.specs.{filter, flat_map, range_with_len}
use Rattle.std.proofs.lemmas.List.Sums.{sum_by_push}
use Rattle.tree_dump.proofs.Lemmas.{filter-append, flat_map-append, flat_map_more, range_push, take_at}

-- one number more of a range
pub count_more : (p : ℕ → Bool) (a n : ℕ) → count_by p (range_with_len a (n + 1)) ≡ count_by p (range_with_len a n) + cond (p (a + n)) 1 0
count_more p a n = ap (count_by p) (range_push a n) ∙ sum_by_push (λ x. cond (p x) 1 0) (range_with_len a n) (a + n)

pub scopes_more : (p : ℕ → Bool) (f : ℕ → List ℕ) (a n : ℕ) → flat_map f (filter p (range_with_len a (n + 1))) ≡ flat_map f (filter p (range_with_len a n)) ++ cond (p (a + n)) (f (a + n)) []
scopes_more p f a n =
    ap (λ ns. flat_map f (filter p ns)) (range_push a n)
    ∙ (ap (flat_map f) (filter-append p (range_with_len a n) ((a + n) ∷ []))
    ∙ (flat_map-append f (filter p (range_with_len a n)) (filter p ((a + n) ∷ [])) ∙ ap (λ l. flat_map f (filter p (range_with_len a n)) ++ l) (by (p (a + n)))))
  where
    by : (b : Bool) → flat_map f (cond b ((a + n) ∷ []) []) ≡ cond b (f (a + n)) []
    by true = append-nil (f (a + n))
    by false = refl

-- one task more has its line
pub task_more : (f : ℕ → List ℕ) (ks : List ℕ) (i k : ℕ) (start old new : List ℕ) → slice_get ks i ≡ Some k → old ≡ start ++ flat_map f (take i ks) → new ≡ old ++ f k → new ≡ start ++ flat_map f (take (i + 1) ks)
task_more f ks i k start old new at before lined =
    lined ∙ (ap (λ t. t ++ f k) before ∙ (flat_map_more f start (take i ks) k ∙ ap (λ ts. start ++ flat_map f ts) (sym (take_at ks i k at))))
