-- Searches over numbers and lists.
use Rattle.std.specs.Prelude.{[], ℕ, ◌||◌, ◌∷◌, Bool, List, None, Option, false, suc, zero}
use Rattle.scope_rules.specs.Words.{option_or}

-- what the least number below n gives, of those that give something
unfoldable pub earliest : {A : Type 0} → (ℕ → Option A) → ℕ → Option A
earliest f zero = None
earliest f (suc n) = option_or (earliest f n) (f n)

-- what the greatest number below n gives, of those that give something
unfoldable pub latest : {A : Type 0} → (ℕ → Option A) → ℕ → Option A
latest f zero = None
latest f (suc n) = option_or (f n) (latest f n)

-- what the last element gives, of those that give something
unfoldable pub last_of : {A B : Type 0} → (A → Option B) → List A → Option B
last_of f [] = None
last_of f (x ∷ xs) = option_or (last_of f xs) (f x)

-- the test holds of some number below n
unfoldable pub some_below : (ℕ → Bool) → ℕ → Bool
some_below test zero = false
some_below test (suc n) = some_below test n || test n
