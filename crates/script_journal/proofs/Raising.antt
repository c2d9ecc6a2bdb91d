-- Scopes and tasks with so many others numbered before them, main still 0: events of them, and searches over these.
use Rattle.std.proofs.Common.{[], ℕ, ◌+◌, ◌==◌, ◌∙◌, ◌∷◌, ◌≡◌, Bool, List, None, Option, Some, ap, arith, fold, map, nat_lt, option_map, refl, suc, zero}
use Rattle.script_journal.specs.{Event, Forking, Opening, cons_option, earliest, filter_map, last_of, latest, list_any, numbered, option_or, range_with_len}
use Rattle.script_journal.proofs.Lemmas.{nat_tests}

-- task k, or main, if so many tasks were numbered before
unfoldable pub up : ℕ → ℕ → ℕ
up tasks zero = zero
up tasks (suc k) = tasks + suc k

pub up_same : (n a b : ℕ) → (up n a == up n b) ≡ (a == b)
unfolding up
up_same n zero zero = refl
up_same n zero (suc b) = grind (arith, nat_tests)
up_same n (suc a) zero = grind (arith, nat_tests)
up_same n (suc a) (suc b) = grind (arith, nat_tests)

pub up_main : (n a : ℕ) → (up n a == 0) ≡ (a == 0)
unfolding up
up_main n zero = refl
up_main n (suc a) = grind (arith, nat_tests)

pub same_behind : (n s t : ℕ) → (n + s == n + t) ≡ (s == t)
same_behind n s t = grind (arith, nat_tests)

pub before_behind : (n s t : ℕ) → nat_lt (n + s) (n + t) ≡ nat_lt s t
before_behind n s t = grind (arith, nat_tests)

abbrev pub raised : (scopes tasks : ℕ) → Event → Event
raised scopes tasks e = numbered (λ s. scopes + s) (up tasks) e

abbrev pub up_opening : ℕ → Opening → Opening
up_opening tasks o = record o { actor = up tasks o.actor }

abbrev pub up_forking : (scopes tasks : ℕ) → Forking → Forking
up_forking scopes tasks f = record f { actor = up tasks f.actor; scope = scopes + f.scope }

-- ---- searches

module _ {A : Type 0} (f : A → A) where
  pub any_raised : (p q : A → Bool) → ((x : A) → p (f x) ≡ q x) → (xs : List A) → list_any p (map f xs) ≡ list_any q xs
  any_raised p q same [] = refl
  any_raised p q same (x ∷ xs) = rw (same x, any_raised p q same xs) refl

  pub last_raised : {B : Type 0} (g k : A → Option B) → ((x : A) → g (f x) ≡ k x) → (xs : List A) → last_of g (map f xs) ≡ last_of k xs
  unfolding last_of
  last_raised g k same [] = refl
  last_raised g k same (x ∷ xs) = rw (same x, last_raised g k same xs) refl

  pub fold_raised : {B : Type 0} (g k : B → A → B) → ((b : B) (x : A) → g b (f x) ≡ k b x) → (b : B) (xs : List A) → fold g b (map f xs) ≡ fold k b xs
  fold_raised g k same b [] = refl
  fold_raised g k same b (x ∷ xs) = ap (λ c. fold g c (map f xs)) (same b x) ∙ fold_raised g k same (k b x) xs

kept_raised : {B : Type 0} (m : B → B) (o : Option B) (found : List B) → cons_option (option_map m o) (map m found) ≡ map m (cons_option o found)
kept_raised m None found = refl
kept_raised m (Some y) found = refl

pub filter_raised : {A B : Type 0} (f : A → A) (m : B → B) (g k : A → Option B) → ((x : A) → g (f x) ≡ option_map m (k x)) → (xs : List A) → filter_map g (map f xs) ≡ map m (filter_map k xs)
filter_raised f m g k same [] = refl
filter_raised f m g k same (x ∷ xs) = rw (same x, filter_raised f m g k same xs) (kept_raised m (k x) (filter_map k xs))

pub or_raised : {A : Type 0} (f : A → A) (o p : Option A) → option_or (option_map f o) (option_map f p) ≡ option_map f (option_or o p)
or_raised f None p = refl
or_raised f (Some x) p = refl

pub latest_raised : {A : Type 0} (f : A → A) (g : ℕ → Option A) (n : ℕ) → latest (λ i. option_map f (g i)) n ≡ option_map f (latest g n)
unfolding latest
latest_raised f g zero = refl
latest_raised f g (suc n) = rw (latest_raised f g n) (or_raised f (g n) (latest g n))

pub earliest_none : {A : Type 0} (g : ℕ → Option A) → ((i : ℕ) → g i ≡ None) → (n : ℕ) → earliest g n ≡ None
unfolding earliest
earliest_none g none zero = refl
earliest_none g none (suc n) = rw (earliest_none g none n, none n) refl

pub any_numbered : (n : ℕ) (p q : ℕ → Bool) → ((k : ℕ) → p (n + suc k) ≡ q (suc k)) → (a m : ℕ) → list_any p (range_with_len (n + suc a) m) ≡ list_any q (range_with_len (suc a) m)
any_numbered n p q same a zero = refl
any_numbered n p q same a (suc m) =
    let next : n + suc a + 1 ≡ n + suc (suc a) = omega arith in
    let own : suc a + 1 ≡ suc (suc a) = omega arith in
    rw (same a, next, own, any_numbered n p q same (suc a) m) refl
