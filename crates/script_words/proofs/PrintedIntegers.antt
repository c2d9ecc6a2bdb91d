-- Numbers that may be below 0 are read as they are printed.
use Rattle.std.proofs.Common.{[], ℕ, ℤ, ◌-◌, ◌<◌, ◌==◌, ◌^◌, ◌∙◌, ◌∷◌, ◌≡◌, Bool, List, None, Option, Some, ap, arith, false, if◌then◌else◌, length, negsuc, option_and_then, option_map, pos, refl, subst, suc, sym, true, zero}
use Rattle.script_words.specs.{PrintedIntegerIsRead, ReadIntegerIsPrinted, decimal, integer_said, is_ascii_digit, list_all, mag, negative_said, number_said, signed_decimal}
use Rattle.script_words.proofs.Lemmas.{decimal_nonempty, digits_decimal, nat_tests, none-some, same_Some}
use Rattle.script_words.proofs.{Numerals.by_digits, Printed.printed_number_is_read, Printed.read_number_is_printed}

-- a word of digits has no sign
no_sign : (word : List ℕ) → 0 < length word → list_all is_ascii_digit word ≡ true → integer_said word ≡ option_map pos (number_said 9223372036854775807 word)
unfolding integer_said
no_sign [] some digits = absurd (omega (arith, some))
no_sign (first ∷ others) some digits =
    let other : (first == 45) ≡ false = grind (arith, nat_tests) in
    rw other refl

printed_negative : (n : ℕ) → n < 2 ^ 63 → negative_said (decimal (suc n)) ≡ Some (negsuc n)
unfolding negative_said
printed_negative n small =
    let read = printed_number_is_read 9223372036854775808 (suc n) (omega (arith, small)) (omega (arith, small)) in
    let above : (suc n == 0) ≡ false = grind (arith, nat_tests) in
    let less : suc n - 1 ≡ n = omega arith in
    rw read (rw above (ap (λ m. Some (negsuc m)) less))

pub printed_integer_is_read : PrintedIntegerIsRead
unfolding integer_said
printed_integer_is_read (pos n) small =
    let digits : list_all is_ascii_digit (decimal n) ≡ true = digits_decimal by_digits n (omega (arith, small)) in
    let read = printed_number_is_read 9223372036854775807 n (omega (arith, small)) (omega (arith, small)) in
    no_sign (decimal n) (decimal_nonempty n (omega (arith, small))) digits ∙ ap (option_map pos) read
printed_integer_is_read (negsuc n) small = printed_negative n small

-- what is printed of the number is the word
abbrev Prints : ℤ → List ℕ → Type 0
Prints z word = (signed_decimal z ≡ word) × (mag z < 2 ^ 63)

abbrev below_zero : ℕ → Option ℤ
below_zero magnitude = if magnitude == 0 then None else Some (negsuc (magnitude - 1))

below_zero_none : below_zero 0 ≡ None
below_zero_none = refl

below_zero_some : (m : ℕ) → below_zero (suc m) ≡ Some (negsuc m)
below_zero_some m =
    let above : (suc m == 0) ≡ false = grind (arith, nat_tests) in
    let less : suc m - 1 ≡ m = omega arith in
    rw above (ap (λ k. Some (negsuc k)) less)

negative_prints : (digits : List ℕ) (z : ℤ) (o : Option ℕ) → number_said 9223372036854775808 digits ≡ o → option_and_then below_zero o ≡ Some z → Prints z (45 ∷ digits)
negative_prints digits z None read said = absurd cc
negative_prints digits z (Some zero) read said = absurd (none-some z (sym below_zero_none ∙ said))
negative_prints digits z (Some (suc m)) read said =
    let same : negsuc m ≡ z = same_Some (negsuc m) z (sym (below_zero_some m) ∙ said) in
    let printed = read_number_is_printed 9223372036854775808 (suc m) digits (omega arith) read in
    subst (λ x. Prints x (45 ∷ digits)) same (ap (λ w. 45 ∷ w) printed.0, omega (arith, printed.1))

plain_prints : (word : List ℕ) (z : ℤ) (o : Option ℕ) → number_said 9223372036854775807 word ≡ o → option_map pos o ≡ Some z → Prints z word
plain_prints word z None read said = absurd cc
plain_prints word z (Some n) read said =
    let same : pos n ≡ z = same_Some (pos n) z said in
    let printed = read_number_is_printed 9223372036854775807 n word (omega arith) read in
    subst (λ x. Prints x word) same (printed.0, omega (arith, printed.1))

minus_is : (b : ℕ) → (b == 45) ≡ true → b ≡ 45
minus_is b is = grind (arith, nat_tests)

prints_at : (first : ℕ) (others : List ℕ) (z : ℤ) (minus : Bool) → (first == 45) ≡ minus → integer_said (first ∷ others) ≡ Some z → Prints z (first ∷ others)
unfolding integer_said negative_said
prints_at first others z true is said =
    let same = minus_is first is in
    let step : integer_said (first ∷ others) ≡ negative_said others = rw is refl in
    let at = negative_prints others z (number_said 9223372036854775808 others) refl (sym step ∙ said) in
    rw same at
prints_at first others z false is said =
    let step : integer_said (first ∷ others) ≡ option_map pos (number_said 9223372036854775807 (first ∷ others)) = rw is refl in
    plain_prints (first ∷ others) z (number_said 9223372036854775807 (first ∷ others)) refl (sym step ∙ said)

pub read_integer_is_printed : ReadIntegerIsPrinted
unfolding integer_said
read_integer_is_printed z [] said = absurd cc
read_integer_is_printed z (first ∷ others) said = prints_at first others z (first == 45) refl said
