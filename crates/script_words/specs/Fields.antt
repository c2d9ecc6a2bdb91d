-- The fields of a line.
use Rattle.std.specs.Prelude.{[], ℕ, ◌==◌, ◌∷◌, Bool, List, None, Option, Some, cond, false, true}
use Rattle.script_words.specs.Terms.{filter, slice_split}

-- the space
abbrev pub is_space : ℕ → Bool
is_space b = b == 32

abbrev pub is_field : List ℕ → Bool
is_field [] = false
is_field (b ∷ bs) = true

-- the longest runs of bytes other than the space
unfoldable pub fields : List ℕ → List (List ℕ)
fields line = filter is_field (slice_split is_space line)

-- the first field and the others
abbrev pub first_and_rest : List (List ℕ) → Option (List ℕ × List (List ℕ))
first_and_rest [] = None
first_and_rest (field ∷ others) = Some (field, others)

-- the field, if it is the only one
unfoldable pub just_one : List (List ℕ) → Option (List ℕ)
just_one (first ∷ []) = Some first
just_one _ = None

-- the fields, if they are two
unfoldable pub just_two : List (List ℕ) → Option (List ℕ × List ℕ)
just_two (first ∷ second ∷ []) = Some (first, second)
just_two _ = None

-- the fields, if they are three
unfoldable pub just_three : List (List ℕ) → Option (List ℕ × List ℕ × List ℕ)
just_three (first ∷ second ∷ third ∷ []) = Some (first, second, third)
just_three _ = None

-- the text from its first byte that is no space
unfoldable pub without_spaces : List ℕ → List ℕ
without_spaces [] = []
without_spaces (b ∷ bs) = cond (is_space b) (without_spaces bs) (b ∷ bs)

abbrev pub is_empty : List (List ℕ) → Bool
is_empty [] = true
is_empty (word ∷ others) = false
