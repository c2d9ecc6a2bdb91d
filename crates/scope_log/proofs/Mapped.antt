-- Searches over what a function was put on.
use Rattle.std.proofs.Common.{[], ℕ, ◌+◌, ◌∙◌, ◌∷◌, ◌≡◌, Bool, List, None, Option, Some, ap, cond, count_by, fold, map, option_map, refl, suc, sum_by, zero}
use Rattle.scope_log.specs.{earliest, filter_map, last_of, list_any, option_and_then, option_map_or, option_or}

module _ {A : Type 0} (f : A → A) where
  pub any_mapped : (p : A → Bool) → ((x : A) → p (f x) ≡ p x) → (xs : List A) → list_any p (map f xs) ≡ list_any p xs
  any_mapped p same [] = refl
  any_mapped p same (x ∷ xs) = rw (same x, any_mapped p same xs) refl

  pub last_mapped : {B : Type 0} (g : A → Option B) → ((x : A) → g (f x) ≡ g x) → (xs : List A) → last_of g (map f xs) ≡ last_of g xs
  unfolding last_of
  last_mapped g same [] = refl
  last_mapped g same (x ∷ xs) = rw (same x, last_mapped g same xs) refl

  pub filter_mapped : {B : Type 0} (g k : A → Option B) → ((x : A) → g (f x) ≡ k x) → (xs : List A) → filter_map g (map f xs) ≡ filter_map k xs
  filter_mapped g k same [] = refl
  filter_mapped g k same (x ∷ xs) = rw (same x, filter_mapped g k same xs) refl

  pub fold_mapped : {B : Type 0} (g : B → A → B) → ((b : B) (x : A) → g b (f x) ≡ g b x) → (b : B) (xs : List A) → fold g b (map f xs) ≡ fold g b xs
  fold_mapped g same b [] = refl
  fold_mapped g same b (x ∷ xs) = ap (λ c. fold g c (map f xs)) (same b x) ∙ fold_mapped g same (g b x) xs

  pub sum_mapped : (g : A → ℕ) → ((x : A) → g (f x) ≡ g x) → (xs : List A) → sum_by g (map f xs) ≡ sum_by g xs
  sum_mapped g same xs = fold_mapped (λ a x. a + g x) (λ a x. ap (λ n. a + n) (same x)) 0 xs

  pub count_mapped : (p : A → Bool) → ((x : A) → p (f x) ≡ p x) → (xs : List A) → count_by p (map f xs) ≡ count_by p xs
  count_mapped p same xs = sum_mapped (λ x. cond (p x) 1 0) (λ x. ap (λ b. cond b 1 0) (same x)) xs

  or_mapped : (o p : Option A) → option_or (option_map f o) (option_map f p) ≡ option_map f (option_or o p)
  or_mapped None p = refl
  or_mapped (Some x) p = refl

  pub earliest_mapped : (g : ℕ → Option A) (n : ℕ) → earliest (λ i. option_map f (g i)) n ≡ option_map f (earliest g n)
  unfolding earliest
  earliest_mapped g zero = refl
  earliest_mapped g (suc n) = rw (earliest_mapped g n) (or_mapped (earliest g n) (g n))

  pub then_mapped : {B : Type 0} (g k : A → Option B) → ((x : A) → g (f x) ≡ k x) → (o : Option A) → option_and_then g (option_map f o) ≡ option_and_then k o
  then_mapped g k same None = refl
  then_mapped g k same (Some x) = same x

  pub map_or_mapped : {B : Type 0} (g k : A → B) → ((x : A) → g (f x) ≡ k x) → (b : B) (o : Option A) → option_map_or g (option_map f o) b ≡ option_map_or k o b
  map_or_mapped g k same b None = refl
  map_or_mapped g k same b (Some x) = same x
