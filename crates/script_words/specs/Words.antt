-- Names and values as words.
use Rattle.std.specs.Prelude.{ℕ, ◌≡◌, Bool, List, None, Option, Some, codes, false, if◌then◌else◌, length, option_map, refl, true}
use Rattle.script_words.specs.Terms.{Name, Num, Text, Value, bytes_eq, filled_up, is_stored, option_or}
use Rattle.script_words.specs.Numbers.{integer_said, moment_said}

-- the name with this text, which fills up to one
abbrev pub name_of : (text : List ℕ) → is_stored (length text) (filled_up text) ≡ true → Name
name_of text stored = record { len = length text; bytes = filled_up text; stored = ∣ stored ∣₁ }

abbrev pub name_if : (text : List ℕ) (stored : Bool) → is_stored (length text) (filled_up text) ≡ stored → Option Name
name_if text true stored = Some (name_of text stored)
name_if text false other = None

-- the name that the word is
unfoldable pub name_said : List ℕ → Option Name
name_said word = name_if word (is_stored (length word) (filled_up word)) refl

-- the value that the word is: a number, or else a name
unfoldable pub value_said : List ℕ → Option Value
value_said word = option_or (option_map Num (integer_said word)) (option_map Text (name_said word))

-- a deadline, or `never`
unfoldable pub new_deadline_said : List ℕ → Option (Option ℕ)
new_deadline_said word = if bytes_eq word (codes "never") then Some None else option_map Some (moment_said word)
