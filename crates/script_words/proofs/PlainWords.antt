-- The words of a command are fields of at most 30 bytes.
use Rattle.std.proofs.Common.{[], ℕ, ℤ, ◌++◌, ◌+◌, ◌<◌, ◌==◌, ◌^◌, ◌∙◌, ◌∷◌, ◌≡◌, ◌≤◌, Bool, List, arith, codes, false, length, length-append, nat_le, negsuc, not, pos, refl, suc, true}
use Rattle.script_words.specs.{FailuresAtLeast, IsPolicy, IsValue, Name, Num, Policy, SuccessesAtLeast, SumAtLeast, Text, Until, Value, decimal, is_ascii_digit, is_field, is_inner, is_name, is_space}
use Rattle.script_words.specs.{list_all, mag, policy_word, signed_decimal, text_of, value_text}
use Rattle.script_words.proofs.Lemmas.{decimal_nonempty, digits_decimal, length-decimal-le, length_signed_le, list_all-append, nat_tests}
use Rattle.script_words.proofs.{JoinedFields.has_no_space, JoinedFields.is_word, Numerals.by_digits, SpelledWords.named_text}

false-true : false ≡ true → ⊥
false-true is = absurd cc

digit_plain : (b : ℕ) → is_ascii_digit b ≡ true → not (is_space b) ≡ true
digit_plain b digit =
    let other : (b == 32) ≡ false = grind (arith, nat_tests) in
    rw other refl

space_is : (b : ℕ) → (b == 32) ≡ true → b ≡ 32
space_is b is = grind (arith, nat_tests)

inner_at : (b : ℕ) (space : Bool) → (b == 32) ≡ space → is_inner b ≡ true → space ≡ false
inner_at b true is inner =
    let same = space_is b is in
    let wrong : is_inner 32 ≡ true = rw same at inner in
    absurd (false-true wrong)
inner_at b false is inner = refl

inner_plain : (b : ℕ) → is_inner b ≡ true → not (is_space b) ≡ true
inner_plain b inner =
    let other : (b == 32) ≡ false = inner_at b (b == 32) refl inner in
    rw other refl

all_plain : (test : ℕ → Bool) → ((b : ℕ) → test b ≡ true → not (is_space b) ≡ true) → (word : List ℕ) → list_all test word ≡ true → has_no_space word ≡ true
all_plain test plain [] are = refl
all_plain test plain (b ∷ bs) are =
    let here : test b ≡ true = grind arith in
    let below : list_all test bs ≡ true = grind arith in
    let first = plain b here in
    let others = all_plain test plain bs below in
    rw first others

pub digits_plain : (n : ℕ) → n < 2 ^ 64 → has_no_space (decimal n) ≡ true
digits_plain n fits = all_plain is_ascii_digit digit_plain (decimal n) (digits_decimal by_digits n fits)

pub digits_short : (n : ℕ) → n < 2 ^ 64 → length (decimal n) ≤ 20
digits_short n fits = length-decimal-le 20 n (omega arith) (omega (arith, fits)) fits

some_field : (word : List ℕ) → 0 < length word → is_field word ≡ true
some_field [] some = absurd (omega (arith, some))
some_field (b ∷ bs) some = refl

-- what is no longer than that passes the test
short_word : (n m : ℕ) → n ≤ m → nat_le n m ≡ true
short_word n m within = grind (arith, nat_tests)

pub number_is_word : (n : ℕ) → n < 2 ^ 64 → is_word (decimal n) ≡ true
number_is_word n fits =
    let field = some_field (decimal n) (decimal_nonempty n fits) in
    let plain = digits_plain n fits in
    let short = short_word (length (decimal n)) 30 (omega (arith, digits_short n fits)) in
    rw field (rw plain (rw short refl))

length_of_name : (word : List ℕ) → is_name word ≡ true → length word ≤ 24
unfolding is_name
length_of_name word is = grind (arith, nat_tests)

field_of_name : (word : List ℕ) → is_name word ≡ true → is_field word ≡ true
unfolding is_name
field_of_name [] is = absurd (false-true is)
field_of_name (b ∷ bs) is = refl

inner_of_name : (word : List ℕ) → is_name word ≡ true → list_all is_inner word ≡ true
unfolding is_name
inner_of_name word is = grind arith

text_is_word : (word : List ℕ) → is_name word ≡ true → is_word word ≡ true
text_is_word word is =
    let field = field_of_name word is in
    let plain = all_plain is_inner inner_plain word (inner_of_name word is) in
    let short = short_word (length word) 30 (omega (arith, length_of_name word is)) in
    rw field (rw plain (rw short refl))

pub name_is_word : (name : Name) → is_word (text_of name) ≡ true
name_is_word name = text_is_word (text_of name) (named_text name)

-- a prefix and a word with no space
prefixed : (b : ℕ) (bs word : List ℕ) → has_no_space (b ∷ bs) ≡ true → has_no_space word ≡ true → length (b ∷ bs) + length word ≤ 30 → is_word ((b ∷ bs) ++ word) ≡ true
prefixed b bs word first second within =
    let plain : has_no_space ((b ∷ bs) ++ word) ≡ true = list_all-append (λ c. not (is_space c)) (b ∷ bs) word ∙ rw first second in
    let len : length ((b ∷ bs) ++ word) ≡ length (b ∷ bs) + length word = length-append (b ∷ bs) word in
    let short = short_word (length ((b ∷ bs) ++ word)) 30 (omega (arith, len, within)) in
    rw plain (rw short refl)

signed_plain : (z : ℤ) → mag z < 2 ^ 63 → has_no_space (signed_decimal z) ≡ true
signed_plain (pos n) fits = digits_plain n (omega (arith, fits))
signed_plain (negsuc n) fits = digits_plain (suc n) (omega (arith, fits))

signed_short : (z : ℤ) → mag z < 2 ^ 63 → length (signed_decimal z) ≤ 20
signed_short z fits = length_signed_le 19 z (omega (arith, fits)) fits

signed_is_word : (z : ℤ) → mag z < 2 ^ 63 → is_word (signed_decimal z) ≡ true
signed_is_word (pos n) fits = number_is_word n (omega (arith, fits))
signed_is_word (negsuc n) fits = prefixed 45 [] (decimal (suc n)) refl (digits_plain (suc n) (omega (arith, fits))) (omega (arith, digits_short (suc n) (omega (arith, fits))))

pub value_is_word : (value : Value) → IsValue value → is_word (value_text value) ≡ true
value_is_word (Num number) fits = signed_is_word number fits
value_is_word (Text name) fits = name_is_word name

pub policy_is_word : (policy : Policy) → IsPolicy policy → is_word (policy_word policy) ≡ true
policy_is_word (Until (FailuresAtLeast count)) fits =
    let small : count < 2 ^ 64 = omega (arith, fits) in
    let len : length (decimal count) ≤ 10 = length-decimal-le 10 count (omega arith) (omega (arith, fits)) small in
    prefixed 117 (codes "ntil:fail:") (decimal count) refl (digits_plain count small) (omega (arith, len))
policy_is_word (Until (SuccessesAtLeast count)) fits =
    let small : count < 2 ^ 64 = omega (arith, fits) in
    let len : length (decimal count) ≤ 10 = length-decimal-le 10 count (omega arith) (omega (arith, fits)) small in
    prefixed 117 (codes "ntil:ok:") (decimal count) refl (digits_plain count small) (omega (arith, len))
policy_is_word (Until (SumAtLeast sum)) fits =
    prefixed 117 (codes "ntil:sum:") (signed_decimal sum) refl (signed_plain sum fits) (omega (arith, signed_short sum fits))
policy_is_word _ fits = refl

pub deadline_is_word : (moment : ℕ) → moment < 2 ^ 64 → is_word (codes "deadline=" ++ decimal moment) ≡ true
deadline_is_word moment fits =
    prefixed 100 (codes "eadline=") (decimal moment) refl (digits_plain moment fits) (omega (arith, digits_short moment fits))
