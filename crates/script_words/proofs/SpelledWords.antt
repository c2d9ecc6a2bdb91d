-- Words that are printed are read.
use Rattle.std.proofs.Common.{[], ℕ, ◌&&◌, ◌<◌, ◌==◌, ◌^◌, ◌∷◌, ◌≡◌, ◌≤◌, Bool, List, None, Some, arith, false, refl, true}
use Rattle.script_words.specs.{FailuresAtLeast, IsPolicy, IsValue, Name, Num, Policy, SuccessesAtLeast, SumAtLeast, Text, Until, Value, after, decimal, has_no_needless_zero, integer_said, is_ascii_digit}
use Rattle.script_words.specs.{is_name, is_numeral, list_all, moment_said, name_said, number_said, policy_said, policy_word, rule_said, small_said, text_of, value_said, value_text}
use Rattle.script_words.proofs.Lemmas.{∥∥₁_elim, nat_tests, props, stored_parts}
use Rattle.script_words.proofs.{NameWords.name_said_some, Printed.printed_number_is_read, PrintedIntegers.printed_integer_is_read}

pub small_read : (n : ℕ) → n < 2 ^ 32 → small_said (decimal n) ≡ Some n
small_read n small = printed_number_is_read 4294967295 n (omega (arith, small)) (omega (arith, small))

pub moment_read : (n : ℕ) → n < 2 ^ 64 → moment_said (decimal n) ≡ Some n
moment_read n small = printed_number_is_read 18446744073709551615 n (omega (arith, small)) small

pub named_text : (name : Name) → is_name (text_of name) ≡ true
named_text name =
    let test : IsProp (is_name (text_of name) ≡ true) = hlevel props in
    ∥∥₁_elim name.stored test (λ s. (stored_parts name.len name.bytes s).named)

pub name_read : (name : Name) → name_said (text_of name) ≡ Some name
name_read name = name_said_some (text_of name) name (named_text name) refl

and_false : (a : Bool) → (a && false) ≡ false
and_false true = refl
and_false false = refl

-- a word that begins with a letter is no number
letter_is_no_digit : (b : ℕ) (bs : List ℕ) → 97 ≤ b → is_numeral (b ∷ bs) ≡ false
unfolding is_numeral
letter_is_no_digit b bs letter =
    let digit : is_ascii_digit b ≡ false = grind (arith, nat_tests) in
    let digits : list_all is_ascii_digit (b ∷ bs) ≡ false = rw digit refl in
    rw digits (and_false (has_no_needless_zero (b ∷ bs)))

name_is_no_integer : (word : List ℕ) → is_name word ≡ true → integer_said word ≡ None
unfolding is_name integer_said number_said
name_is_no_integer [] is = refl
name_is_no_integer (b ∷ bs) is =
    let letter : 97 ≤ b = grind (arith, nat_tests) in
    let plain : (b == 45) ≡ false = grind (arith, nat_tests) in
    let digits = letter_is_no_digit b bs letter in
    rw plain (rw digits refl)

pub value_read : (value : Value) → IsValue value → value_said (value_text value) ≡ Some value
unfolding value_said
value_read (Num number) fits = let read = printed_integer_is_read number fits in rw read refl
value_read (Text name) fits =
    let other = name_is_no_integer (text_of name) (named_text name) in
    let read = name_read name in
    rw other (rw read refl)

pub policy_read : (policy : Policy) → IsPolicy policy → policy_said (policy_word policy) ≡ Some policy
unfolding policy_said rule_said after
policy_read (Until (FailuresAtLeast count)) fits = let read = small_read count fits in rw read refl
policy_read (Until (SuccessesAtLeast count)) fits = let read = small_read count fits in rw read refl
policy_read (Until (SumAtLeast sum)) fits = let read = printed_integer_is_read sum fits in rw read refl
policy_read _ fits = refl
