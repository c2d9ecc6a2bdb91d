-- Numbers are read as they are printed.
use Rattle.std.proofs.Common.{[], ℕ, ◌&&◌, ◌<◌, ◌^◌, ◌∙◌, ◌∷◌, ◌≡◌, ◌≤◌, Bool, List, ap, arith, get_or, length, nat_le, refl, suc, sym, true, zero}
use Rattle.script_words.specs.{PrintedNumberIsRead, ReadNumberIsPrinted, decimal, digits_value, has_no_needless_zero, is_ascii_digit, is_numeral, list_all, number_said}
use Rattle.script_words.proofs.Lemmas.{cond_some, decimal-digits_value, decimal_digit, decimal_nonempty, digits_decimal, digits_value-decimal, first_decimal, nat_tests}
use Rattle.script_words.proofs.Numerals.{by_digits, digits_of_numeral, length_of_numeral}

-- a first digit above `0` is no needless zero
above_zero : (word : List ℕ) → 0 < length word → 48 < get_or word 0 0 → has_no_needless_zero word ≡ true
above_zero [] some above = absurd (omega (arith, some))
above_zero (first ∷ []) some above = refl
above_zero (first ∷ second ∷ others) some above = grind (arith, nat_tests)

no_needless_zero : (n : ℕ) → n < 2 ^ 64 → has_no_needless_zero (decimal n) ≡ true
no_needless_zero zero small = let zero_is = decimal_digit 0 (omega arith) in rw zero_is refl
no_needless_zero (suc n) small = above_zero (decimal (suc n)) (decimal_nonempty (suc n) small) (first_decimal (suc n) (omega arith) small)

pub printed_is_numeral : (n : ℕ) → n < 2 ^ 64 → is_numeral (decimal n) ≡ true
unfolding is_numeral
printed_is_numeral n small =
    let zeros = no_needless_zero n small in
    let digits : list_all is_ascii_digit (decimal n) ≡ true = digits_decimal by_digits n small in
    rw zeros (rw digits refl)

-- a number that is printed is read as that number
pub printed_number_is_read : PrintedNumberIsRead
unfolding number_said
printed_number_is_read limit n within small =
    let numeral = printed_is_numeral n small in
    let value : digits_value 10 (decimal n) ≡ n = digits_value-decimal by_digits n small in
    let below : nat_le n limit ≡ true = grind (arith, nat_tests) in
    rw numeral (rw value (rw below refl))

-- a numeral that begins with `0` is `0`
zero_alone : (word : List ℕ) → has_no_needless_zero word ≡ true → get_or word 0 0 ≡ 48 → length word ≡ 1
zero_alone [] is first = absurd cc
zero_alone (first ∷ []) is zero_first = refl
zero_alone (first ∷ second ∷ others) is zero_first = absurd (grind (arith, nat_tests))

zeros_of_numeral : (word : List ℕ) → is_numeral word ≡ true → has_no_needless_zero word ≡ true
unfolding is_numeral
zeros_of_numeral word is = grind arith

pub numeral_is_printed : (word : List ℕ) → is_numeral word ≡ true → digits_value 10 word < 2 ^ 64 → decimal (digits_value 10 word) ≡ word
numeral_is_printed word is small =
    decimal-digits_value by_digits word (digits_of_numeral word is) (length_of_numeral word is) (zero_alone word (zeros_of_numeral word is)) small

both_true : (a b : Bool) → (a && b) ≡ true → (a ≡ true) × (b ≡ true)
both_true a b is = grind arith

le_of_test : (a b : ℕ) → nat_le a b ≡ true → a ≤ b
le_of_test a b is = grind (arith, nat_tests)

-- what a word is that is read as a number
pub read_number_is_printed : ReadNumberIsPrinted
unfolding number_said
read_number_is_printed limit n word bound said =
    let parts = cond_some (is_numeral word && nat_le (digits_value 10 word) limit) (digits_value 10 word) n said in
    let tests = both_true (is_numeral word) (nat_le (digits_value 10 word) limit) parts.0 in
    let within = le_of_test (digits_value 10 word) limit tests.1 in
    let printed = numeral_is_printed word tests.0 (omega (arith, within, bound)) in
    (ap decimal (sym parts.1) ∙ printed, omega (arith, within, parts.1))
