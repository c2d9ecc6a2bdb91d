use Rattle.std.proofs.Common.{ℕ, ◌<◌, ◌≡◌, ◌≢◌, get_or, take, true}
use Rattle.script_words.specs.{digits_value, is_ascii_digit, list_all}
use Rattle.script_words.proofs.numbers.digits_ahead.Given as goal

-- the bytes so far are digits, and the value is theirs
abbrev pub invariant-loop-index : goal.invariant-loop-index
invariant-loop-index l =
    (list_all is_ascii_digit (take l.index l.text) ≡ true) × (l.value ≡ digits_value 10 (take l.index l.text)) × ((k : ℕ) → k < l.index → get_or l.text k 0 ≢ 32)
