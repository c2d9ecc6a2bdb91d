-- The digits before the first space.
use Rattle.std.proofs.Common.{ℕ, ◌*◌, ◌+◌, ◌-◌, ◌<◌, ◌≡◌, ◌≢◌, ◌≤◌, List, arith, false, get_or, get_or-take, length, length-take, sym, take, take-take}
use Rattle.script_words.specs.{IsInRange, digits_value, is_ascii_digit, is_space, list_all, position_or_len, word_ahead}
use Rattle.script_words.proofs.Lemmas.{list_all_at}
use Rattle.script_words.proofs.{FieldSteps.no_space_before, Numerals.value_at_least}

-- none of the bytes so far is a space
abbrev pub NoSpace : List ℕ → ℕ → Type 0
NoSpace text n = (k : ℕ) → k < n → get_or text k 0 ≢ 32

pub no_space_more : (text : List ℕ) (i : ℕ) → NoSpace text i → get_or text i 0 ≢ 32 → NoSpace text (i + 1)
no_space_more text i none other k h = grind (arith, none k, other)

-- the byte belongs to the word
pub within_word : (text : List ℕ) (i : ℕ) → i < length text → NoSpace text i → get_or text i 0 ≢ 32 → i < length (word_ahead text)
within_word text i within none other =
    let more = no_space_before text (i + 1) (omega arith) (no_space_more text i none other) in
    let long = length-take (position_or_len is_space text) text in
    omega arith

same_byte : (text : List ℕ) (i : ℕ) → i < length (word_ahead text) → get_or (word_ahead text) i 0 ≡ get_or text i 0
same_byte text i within =
    let long = length-take (position_or_len is_space text) text in
    get_or-take (position_or_len is_space text) text i 0 (omega arith)

-- a byte that is no digit
pub no_digits : (text : List ℕ) (i : ℕ) → i < length text → NoSpace text i → get_or text i 0 ≢ 32 → is_ascii_digit (get_or text i 0) ≡ false → list_all is_ascii_digit (word_ahead text) ≡ false
no_digits text i within none other is =
    let inside = within_word text i within none other in
    list_all_at is_ascii_digit (word_ahead text) i 0 inside (rw (same_byte text i inside) is)

same_front : (text : List ℕ) (i : ℕ) → i < length (word_ahead text) → take i (word_ahead text) ≡ take i text
same_front text i within =
    let long = length-take (position_or_len is_space text) text in
    take-take i (position_or_len is_space text) text (omega arith)

-- the word has no less than its first digits
pub word_at_least : (text : List ℕ) (i : ℕ) → i < length text → NoSpace text i → IsInRange 48 57 (get_or text i 0) → digits_value 10 (take i text) * 10 + (get_or text i 0 - 48) ≤ digits_value 10 (word_ahead text)
word_at_least text i within none range =
    let other : get_or text i 0 ≢ 32 = grind arith in
    let inside = within_word text i within none other in
    let front = same_front text i inside in
    let byte = same_byte text i inside in
    let least = value_at_least (word_ahead text) i inside (rw byte range) in
    rw (sym front, sym byte) least
