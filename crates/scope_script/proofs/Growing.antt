-- What is kept of a line as it grows, by one byte or by several.
use Rattle.std.proofs.Common.{[], ℕ, ◌++◌, ◌+◌, ◌<◌, ◌∙◌, ◌∷◌, ◌≡◌, ◌≢◌, ◌≤◌, ◌⊎◌, Bool, List, None, Some, ap, append-nil, append_assoc, arith, false, if◌then◌else◌, inl, inr, length, length-append, nat_lt, refl, sym, true}
use Rattle.scope_script.specs.{BadWord, LINE_LIMIT, grown, grown_by, kept, line_said, said}
use Rattle.scope_script.proofs.Lemmas.{le-ltb, lt-ltb, ltb-false, ltb-true}

-- a line of more bytes than it may have is a bad word
long_said : (line : List ℕ) → nat_lt LINE_LIMIT (length line) ≡ true → line_said line ≡ BadWord
unfolding line_said
long_said line long = rw long refl

said_if : (line : List ℕ) (b : Bool) → nat_lt LINE_LIMIT (length line) ≡ b → said (if b then None else Some line) ≡ line_said line
said_if line true long = sym (long_said line long)
said_if line false short = refl

-- what is kept of a line says what the line does
pub said_kept : (line : List ℕ) → said (kept line) ≡ line_said line
unfolding kept
said_kept line = said_if line (nat_lt LINE_LIMIT (length line)) refl

one_longer : (line : List ℕ) (b : ℕ) → length (line ++ b ∷ []) ≡ length line + 1
one_longer line b = length-append line (b ∷ [])

grown_if : (line : List ℕ) (b : ℕ) (long full : Bool) → nat_lt LINE_LIMIT (length line) ≡ long → nat_lt (length line) LINE_LIMIT ≡ full → grown (if long then None else Some line) b ≡ kept (line ++ b ∷ [])
unfolding kept grown
grown_if line b true full long is =
    let more : nat_lt LINE_LIMIT (length (line ++ b ∷ [])) ≡ true = lt-ltb _ _ (omega (arith, one_longer line b, ltb-true LINE_LIMIT (length line) long)) in
    rw more refl
grown_if line b false true short is =
    let less : nat_lt LINE_LIMIT (length (line ++ b ∷ [])) ≡ false = le-ltb _ _ (omega (arith, one_longer line b, ltb-true (length line) LINE_LIMIT is)) in
    rw (is, less) refl
grown_if line b false false short is =
    let more : nat_lt LINE_LIMIT (length (line ++ b ∷ [])) ≡ true = lt-ltb _ _ (omega (arith, one_longer line b, ltb-false (length line) LINE_LIMIT is)) in
    rw (is, more) refl

-- what is kept of a line grows as the line does
pub grown_kept : (line : List ℕ) (b : ℕ) → grown (kept line) b ≡ kept (line ++ b ∷ [])
unfolding kept
grown_kept line b = grown_if line b (nat_lt LINE_LIMIT (length line)) (nat_lt (length line) LINE_LIMIT) refl refl

pub none_kept : kept [] ≡ Some []
unfolding kept
none_kept = refl

-- and as it grows by several bytes
grown_by_kept : (line bytes : List ℕ) → grown_by (kept line) bytes ≡ kept (line ++ bytes)
unfolding grown_by
grown_by_kept line [] = ap kept (sym (append-nil line))
grown_by_kept line (b ∷ bytes) =
    ap (λ k. grown_by k bytes) (grown_kept line b) ∙ (grown_by_kept (line ++ b ∷ []) bytes ∙ ap kept (append_assoc line (b ∷ []) bytes))

short_kept : (line : List ℕ) → length line ≤ LINE_LIMIT → kept line ≡ Some line
unfolding kept
short_kept line short =
    let test : nat_lt LINE_LIMIT (length line) ≡ false = le-ltb _ _ short in
    rw test refl

long_kept : (line : List ℕ) → LINE_LIMIT < length line → kept line ≡ None
unfolding kept
long_kept line long =
    let test : nat_lt LINE_LIMIT (length line) ≡ true = lt-ltb _ _ long in
    rw test refl

from_kept : (line bytes : List ℕ) → length line ≤ LINE_LIMIT → grown_by (Some line) bytes ≡ kept (line ++ bytes)
from_kept line bytes short = ap (λ k. grown_by k bytes) (sym (short_kept line short)) ∙ grown_by_kept line bytes

-- a line of which nothing is kept stays so
long_stays : (bytes : List ℕ) → grown_by None bytes ≡ None
unfolding grown_by grown
long_stays [] = refl
long_stays (b ∷ bytes) = long_stays bytes

full_past : (line bytes : List ℕ) → LINE_LIMIT ≤ length line → 0 < length bytes → grown_by (Some line) bytes ≡ None
unfolding grown_by grown
full_past line [] full some = absurd (omega (arith, some))
full_past line (b ∷ bytes) full some =
    let test : nat_lt (length line) LINE_LIMIT ≡ false = le-ltb _ _ full in
    rw test (long_stays bytes)

past_if : (line bytes : List ℕ) (short : Bool) → nat_lt LINE_LIMIT (length line) ≡ short → 0 < length bytes → LINE_LIMIT < length line + length bytes → grown_by (Some line) bytes ≡ None
past_if line bytes true is some more = full_past line bytes (omega (arith, ltb-true LINE_LIMIT (length line) is)) some
past_if line bytes false is some more =
    from_kept line bytes (ltb-false LINE_LIMIT (length line) is) ∙ long_kept (line ++ bytes) (omega (arith, length-append line bytes, more))

-- a line of which nothing is kept, or that nothing is added to
pub stays : (overlong : Bool) (line bytes : List ℕ) → (overlong ≡ true) ⊎ (length bytes ≡ 0) → (if overlong then None else Some line) ≡ grown_by (if overlong then None else Some line) bytes
unfolding grown_by
stays true line bytes which = sym (long_stays bytes)
stays false line [] which = refl
stays false line (b ∷ bytes) (inl long) = absurd cc
stays false line (b ∷ bytes) (inr none) = absurd (omega (arith, none))

-- bytes that find room, and the line is kept with them
pub grows_within : (line bytes : List ℕ) → length line + length bytes ≤ LINE_LIMIT → Some (line ++ bytes) ≡ grown_by (Some line) bytes
grows_within line bytes fits =
    sym (from_kept line bytes (omega (arith, fits)) ∙ short_kept (line ++ bytes) (omega (arith, length-append line bytes, fits)))

-- bytes that find none, and nothing is kept of it
pub grows_past : (line bytes : List ℕ) → length bytes ≢ 0 → ¬ (length line + length bytes ≤ LINE_LIMIT) → None ≡ grown_by (Some line) bytes
grows_past line bytes some more =
    sym (past_if line bytes (nat_lt LINE_LIMIT (length line)) refl (omega (arith, some)) (omega (arith, more)))

-- a line that comes whole says what its bytes say
pub said_whole : (bytes : List ℕ) → said (grown_by (Some []) bytes) ≡ line_said bytes
said_whole bytes = ap (λ k. said (grown_by k bytes)) (sym none_kept) ∙ (ap said (grown_by_kept [] bytes) ∙ said_kept bytes)
