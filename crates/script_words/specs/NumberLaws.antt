-- Numbers as words, by how they are printed.
use Rattle.std.specs.Prelude.{ℕ, ℤ, ◌<◌, ◌^◌, ◌≡◌, ◌≤◌, List, Some}
use Rattle.script_words.specs.Terms.{decimal, mag, signed_decimal}
use Rattle.script_words.specs.Numbers.{integer_said, number_said}

-- a number that is printed is read as that number
abbrev pub PrintedNumberIsRead : Type 0
PrintedNumberIsRead = (limit n : ℕ) → n ≤ limit → n < 2 ^ 64 → number_said limit (decimal n) ≡ Some n

-- a word that is read as a number is what is printed of it, and the number is within the limit
abbrev pub ReadNumberIsPrinted : Type 0
ReadNumberIsPrinted = (limit n : ℕ) (word : List ℕ) → limit < 2 ^ 64 → number_said limit word ≡ Some n → (decimal n ≡ word) × (n ≤ limit)

-- the same of a number of 64 bits that may be below 0: `mag` of it is the number, or one less than
-- the number without its sign
abbrev pub PrintedIntegerIsRead : Type 0
PrintedIntegerIsRead = (z : ℤ) → mag z < 2 ^ 63 → integer_said (signed_decimal z) ≡ Some z

abbrev pub ReadIntegerIsPrinted : Type 0
ReadIntegerIsPrinted = (z : ℤ) (word : List ℕ) → integer_said word ≡ Some z → (signed_decimal z ≡ word) × (mag z < 2 ^ 63)
