-- Numerals, and the value of their first digits.
use Rattle.std.proofs.Common.{[], ℕ, ◌*◌, ◌+◌, ◌-◌, ◌<◌, ◌∙◌, ◌∷◌, ◌≡◌, ◌≤◌, List, ap, arith, get_or, length, rules, take, true}
use Rattle.script_words.specs.{IsInRange, digit_value, digits_value, is_ascii_digit, is_numeral, list_all}
use Rattle.script_words.proofs.Lemmas.{IsNumeralModel, digit_value_digit, digits_value-take-le, digits_value_more, list_all_more, numerals_by_value}

pub by_digits : IsNumeralModel (λ ds. list_all is_ascii_digit ds ≡ true) (digits_value 10)
by_digits = numerals_by_value _ (search rules)

pub digits_of_numeral : (word : List ℕ) → is_numeral word ≡ true → list_all is_ascii_digit word ≡ true
unfolding is_numeral
digits_of_numeral word is = grind arith

pub length_of_numeral : (word : List ℕ) → is_numeral word ≡ true → 0 < length word
unfolding is_numeral
length_of_numeral [] is = absurd cc
length_of_numeral (b ∷ bs) is = omega arith

-- one digit more stands behind the digits before it
pub digits_of_more : (ds : List ℕ) (i : ℕ) → i < length ds → list_all is_ascii_digit (take i ds) ≡ true → is_ascii_digit (get_or ds i 0) ≡ true → list_all is_ascii_digit (take (i + 1) ds) ≡ true
digits_of_more ds i within so_far is = rw (list_all_more is_ascii_digit ds i 0 within, so_far) is

value_of_digit : (c : ℕ) → IsInRange 48 57 c → digit_value c ≡ c - 48
value_of_digit c range = let sum = digit_value_digit c range in omega arith

-- it adds its value to ten times theirs
pub value_of_more : (ds : List ℕ) (i : ℕ) → i < length ds → IsInRange 48 57 (get_or ds i 0) → digits_value 10 (take (i + 1) ds) ≡ digits_value 10 (take i ds) * 10 + (get_or ds i 0 - 48)
value_of_more ds i within range = digits_value_more 10 ds i within ∙ ap (λ v. digits_value 10 (take i ds) * 10 + v) (value_of_digit (get_or ds i 0) range)

-- and all digits have no less
pub value_at_least : (ds : List ℕ) (i : ℕ) → i < length ds → IsInRange 48 57 (get_or ds i 0) → digits_value 10 (take i ds) * 10 + (get_or ds i 0 - 48) ≤ digits_value 10 ds
value_at_least ds i within range =
    let more = value_of_more ds i within range in
    let prefix = digits_value-take-le 10 ds (i + 1) (omega arith) in
    omega arith
