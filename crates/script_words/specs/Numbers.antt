-- Numbers as words: decimal digits, with no needless zero in front.
use Rattle.std.specs.Prelude.{[], ℕ, ℤ, ◌&&◌, ◌-◌, ◌==◌, ◌∷◌, Bool, List, None, Option, Some, false, if◌then◌else◌, nat_le, negsuc, option_map, pos, take, true}
use Rattle.script_words.specs.Terms.{digits_value, is_ascii_digit, list_all, position_or_len}
use Rattle.script_words.specs.{Steps.◌>>=◌, Fields.first_and_rest, Fields.is_space}

-- one digit, or a first one that is no `0`
abbrev pub has_no_needless_zero : List ℕ → Bool
has_no_needless_zero [] = false
has_no_needless_zero (first ∷ []) = true
has_no_needless_zero (first ∷ second ∷ others) = if first == 48 then false else true

unfoldable pub is_numeral : List ℕ → Bool
is_numeral word = has_no_needless_zero word && list_all is_ascii_digit word

-- the number that the word says, if it is at most the limit
unfoldable pub number_said : ℕ → List ℕ → Option ℕ
number_said limit word =
    if is_numeral word && nat_le (digits_value 10 word) limit then Some (digits_value 10 word) else None

-- the number of a scope, a task or an actor, or a count: it has 32 bits
abbrev pub small_said : List ℕ → Option ℕ
small_said word = number_said 4294967295 word

-- a moment: it has 64 bits
abbrev pub moment_said : List ℕ → Option ℕ
moment_said word = number_said 18446744073709551615 word

-- the bytes before the first space
abbrev pub word_ahead : List ℕ → List ℕ
word_ahead text = take (position_or_len is_space text) text

-- what the first field says, and the other fields
unfoldable pub first_said : {A : Type 0} → (List ℕ → Option A) → List (List ℕ) → Option (A × List (List ℕ))
first_said said fs = first_and_rest fs >>= (λ found. option_map (λ x. (x, found.1)) (said found.0))

-- the number below 0 with these digits: it is -9223372036854775808 at the least
unfoldable pub negative_said : List ℕ → Option ℤ
negative_said digits = do
  magnitude ← number_said 9223372036854775808 digits
  if magnitude == 0 then None else Some (negsuc (magnitude - 1))

-- the number, at most 9223372036854775807, or one below 0 with a `-` in front
unfoldable pub integer_said : List ℕ → Option ℤ
integer_said [] = None
integer_said (first ∷ others) =
    if first == 45 then negative_said others else option_map pos (number_said 9223372036854775807 (first ∷ others))
