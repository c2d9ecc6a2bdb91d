-- The parts of a list before and after its first element that passes a test, if lists are put
-- together.
use Rattle.std.proofs.Common.{[], ℕ, ◌++◌, ◌+◌, ◌||◌, ◌∙◌, ◌∷◌, ◌≡◌, Bool, List, None, Option, Some, ap, arith, cond, drop, false, length, nat_lt, not, refl, suc, sym, take, true}
use Rattle.scope_log.specs.{after_first, before_first, cons_option, filter_map, list_any, option_and_then, option_map_or, option_or, position, position_or_len, prefix_len}
use Rattle.scope_log.proofs.Words.{lt-ltb, ltb-false, nat_tests, prefix_len-le-length}

module _ {X : Type 0} (p : X → Bool) where
  take_by : (b : Bool) (n : ℕ) (x : X) (xs : List X) → take (cond (not b) (1 + n) 0) (x ∷ xs) ≡ cond b [] (x ∷ take n xs)
  take_by true n x xs = refl
  take_by false n x xs = let more : 1 + n ≡ suc n = omega arith in rw more refl

  pub before_first-cons : (x : X) (xs : List X) → before_first p (x ∷ xs) ≡ cond (p x) [] (x ∷ before_first p xs)
  before_first-cons x xs = take_by (p x) (prefix_len (λ y. not (p y)) xs) x xs

  drop_by : (b : Bool) (n : ℕ) (x : X) (xs : List X) → drop (cond (not b) (1 + n) 0 + 1) (x ∷ xs) ≡ cond b xs (drop (n + 1) xs)
  drop_by true n x xs = refl
  drop_by false n x xs = let more : (1 + n) + 1 ≡ suc (n + 1) = omega arith in rw more refl

  pub after_first-cons : (x : X) (xs : List X) → after_first p (x ∷ xs) ≡ cond (p x) xs (after_first p xs)
  after_first-cons x xs = drop_by (p x) (prefix_len (λ y. not (p y)) xs) x xs

  before_by : (b c : Bool) (x : X) (xs ys zs : List X) → cond b [] (x ∷ cond c xs (ys ++ zs)) ≡ cond (b || c) (cond b [] (x ∷ xs)) ((x ∷ ys) ++ zs)
  before_by true c x xs ys zs = refl
  before_by false true x xs ys zs = refl
  before_by false false x xs ys zs = refl

  -- what stands before the first is in the first list, if that has one
  pub before_first-append : (xs ys : List X) → before_first p (xs ++ ys) ≡ cond (list_any p xs) (before_first p xs) (xs ++ before_first p ys)
  before_first-append [] ys = refl
  before_first-append (x ∷ xs) ys =
      before_first-cons x (xs ++ ys)
      ∙ (ap (λ zs. cond (p x) [] (x ∷ zs)) (before_first-append xs ys)
      ∙ (before_by (p x) (list_any p xs) x (before_first p xs) xs (before_first p ys)
      ∙ ap (λ zs. cond (p x || list_any p xs) zs ((x ∷ xs) ++ before_first p ys)) (sym (before_first-cons x xs))))

  after_by : (b c : Bool) (xs ys zs ws : List X) → cond b (xs ++ ys) (cond c (zs ++ ys) ws) ≡ cond (b || c) (cond b xs zs ++ ys) ws
  after_by true c xs ys zs ws = refl
  after_by false true xs ys zs ws = refl
  after_by false false xs ys zs ws = refl

  -- what stands after the first goes on with the second list, or stands in it
  pub after_first-append : (xs ys : List X) → after_first p (xs ++ ys) ≡ cond (list_any p xs) (after_first p xs ++ ys) (after_first p ys)
  after_first-append [] ys = refl
  after_first-append (x ∷ xs) ys =
      after_first-cons x (xs ++ ys)
      ∙ (ap (λ zs. cond (p x) (xs ++ ys) zs) (after_first-append xs ys)
      ∙ (after_by (p x) (list_any p xs) xs ys (after_first p xs) (after_first p ys)
      ∙ ap (λ zs. cond (p x || list_any p xs) (zs ++ ys) (after_first p ys)) (sym (after_first-cons x xs))))

  -- if none passes, all stand before the first
  pub before_first_none : (xs : List X) → list_any p xs ≡ false → before_first p xs ≡ xs
  before_first_none [] none = refl
  before_first_none (x ∷ xs) none = before_first-cons x xs ∙ by (p x) none (before_first_none xs)
    where
      by : (b : Bool) → (b || list_any p xs) ≡ false → (list_any p xs ≡ false → before_first p xs ≡ xs) → cond b [] (x ∷ before_first p xs) ≡ x ∷ xs
      by true rest so = absurd cc
      by false rest so = ap (λ zs. x ∷ zs) (so rest)

  -- and none after it
  pub after_first_none : (xs : List X) → list_any p xs ≡ false → after_first p xs ≡ []
  after_first_none [] none = refl
  after_first_none (x ∷ xs) none = after_first-cons x xs ∙ by (p x) none (after_first_none xs)
    where
      by : (b : Bool) → (b || list_any p xs) ≡ false → (list_any p xs ≡ false → after_first p xs ≡ []) → cond b xs (after_first p xs) ≡ []
      by true rest so = absurd cc
      by false rest so = so rest

-- what the first element gives, of those that give something
unfoldable pub first_of : {A B : Type 0} → (A → Option B) → List A → Option B
first_of f [] = None
first_of f (x ∷ xs) = option_or (f x) (first_of f xs)

or_assoc : {A : Type 0} (o p q : Option A) → option_or o (option_or p q) ≡ option_or (option_or o p) q
or_assoc None p q = refl
or_assoc (Some x) p q = refl

pub first_of-append : {A B : Type 0} (f : A → Option B) (xs ys : List A) → first_of f (xs ++ ys) ≡ option_or (first_of f xs) (first_of f ys)
unfolding first_of
first_of-append f [] ys = refl
first_of-append f (x ∷ xs) ys = ap (option_or (f x)) (first_of-append f xs ys) ∙ or_assoc (f x) (first_of f xs) (first_of f ys)

or_false : (b : Bool) → b ≡ (b || false)
or_false true = refl
or_false false = refl

-- whether one of at most two elements passes
pub any_of_two : {A : Type 0} (p : A → Bool) (x y : Option A) → list_any p (cons_option x (cons_option y [])) ≡ (option_map_or p x false || option_map_or p y false)
any_of_two p None None = refl
any_of_two p None (Some y) = sym (or_false (p y))
any_of_two p (Some x) None = refl
any_of_two p (Some x) (Some y) = ap (λ b. p x || b) (sym (or_false (p y)))

-- what is picked of one element at most
pub pick_one : {A B : Type 0} (f : A → Option B) (x : Option A) → filter_map f (cons_option x []) ≡ cons_option (option_and_then f x) []
pick_one f None = refl
pick_one f (Some x) = refl

-- what is picked of at most two elements
pub pick_two : {A B : Type 0} (f : A → Option B) (x y : Option A) → filter_map f (cons_option x (cons_option y [])) ≡ cons_option (option_and_then f x) (cons_option (option_and_then f y) [])
pick_two f None y = pick_one f y
pick_two f (Some x) y = ap (cons_option (f x)) (pick_one f y)

or_none : {A : Type 0} (o : Option A) → o ≡ option_or o None
or_none None = refl
or_none (Some x) = refl

-- what the first of at most two elements gives
pub first_of_two : {A B : Type 0} (f : A → Option B) (x y : Option A) → first_of f (cons_option x (cons_option y [])) ≡ option_or (option_and_then f x) (option_and_then f y)
unfolding first_of
first_of_two f None None = refl
first_of_two f None (Some y) = sym (or_none (f y))
first_of_two f (Some x) None = refl
first_of_two f (Some x) (Some y) = ap (option_or (f x)) (sym (or_none (f y)))

-- if none passes, the first would stand behind the last
pub none_at : {A : Type 0} (p : A → Bool) (xs : List A) → position p xs ≡ None → length xs ≡ position_or_len p xs
none_at p xs none = by (nat_lt (position_or_len p xs) (length xs)) refl none
  where
    by : (b : Bool) → nat_lt (position_or_len p xs) (length xs) ≡ b → cond b (Some (position_or_len p xs)) None ≡ None → length xs ≡ position_or_len p xs
    by true is so = absurd cc
    by false is so = omega (arith, ltb-false _ _ is, prefix_len-le-length (λ x. not (p x)) xs)

moved : (m n : ℕ) → nat_lt m n ≡ nat_lt (1 + m) (suc n)
moved m n = grind (arith, nat_tests)

any_within : {A : Type 0} (p : A → Bool) (xs : List A) → list_any p xs ≡ nat_lt (position_or_len p xs) (length xs)
any_within p [] = refl
any_within p (x ∷ xs) = by (p x) (any_within p xs)
  where
    by : (b : Bool) → list_any p xs ≡ nat_lt (position_or_len p xs) (length xs) → (b || list_any p xs) ≡ nat_lt (cond (not b) (1 + position_or_len p xs) 0) (suc (length xs))
    by true so = sym (lt-ltb 0 (suc (length xs)) (omega arith))
    by false so = so ∙ moved (position_or_len p xs) (length xs)

-- if none is found, none passes
pub none_found : {A : Type 0} (p : A → Bool) (xs : List A) → position p xs ≡ None → list_any p xs ≡ false
none_found p xs none = any_within p xs ∙ by (nat_lt (position_or_len p xs) (length xs)) none
  where
    by : (b : Bool) → cond b (Some (position_or_len p xs)) None ≡ None → b ≡ false
    by true so = absurd cc
    by false so = refl

-- if one is found, it passes, and what stands before it is what stands before the first
pub first_found : {A : Type 0} (p : A → Bool) (xs : List A) (i : ℕ) → position p xs ≡ Some i → (list_any p xs ≡ true) × (take i xs ≡ before_first p xs)
first_found p xs i found = by (nat_lt (position_or_len p xs) (length xs)) refl found
  where
    by : (b : Bool) → nat_lt (position_or_len p xs) (length xs) ≡ b → cond b (Some (position_or_len p xs)) None ≡ Some i → (list_any p xs ≡ true) × (take i xs ≡ before_first p xs)
    by true is so = let same : position_or_len p xs ≡ i = cc in (any_within p xs ∙ is, ap (λ n. take n xs) (sym same))
    by false is so = absurd cc
