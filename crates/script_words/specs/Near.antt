-- Which name is meant by one that differs from it by an edit.
use Rattle.std.specs.Prelude.{[], ℕ, ◌&&◌, ◌==◌, ◌||◌, ◌∷◌, Bool, List, None, Option, Some, false, if◌then◌else◌, true}
use Rattle.script_words.specs.Terms.{bytes_eq}

-- two neighbours stand the other way round, and the rest is the same
abbrev pub swapped : ℕ → List ℕ → ℕ → List ℕ → Bool
swapped x (x' ∷ xs) y (y' ∷ ys) = (x == y') && ((x' == y) && bytes_eq xs ys)
swapped x _ y _ = false

-- names that begin with different letters differ by one edit: a letter is another, is missing, is one too many, or two
-- neighbours are swapped
abbrev pub one_edit : ℕ → List ℕ → ℕ → List ℕ → Bool
one_edit x xs y ys = bytes_eq xs ys || (bytes_eq xs (y ∷ ys) || (bytes_eq (x ∷ xs) ys || swapped x xs y ys))

abbrev pub is_single : List ℕ → Bool
is_single (x ∷ []) = true
is_single _ = false

-- one edit makes the other of a name
unfoldable pub is_near : List ℕ → List ℕ → Bool
is_near [] other = is_single other
is_near (x ∷ xs) [] = is_single (x ∷ xs)
is_near (x ∷ xs) (y ∷ ys) = if x == y then is_near xs ys else one_edit x xs y ys

-- the first of the names that one edit makes of a name
unfoldable pub nearest : List (List ℕ) → List ℕ → Option (List ℕ)
nearest [] name = None
nearest (known ∷ others) name = if is_near name known then Some known else nearest others name
