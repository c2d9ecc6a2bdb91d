-- What is kept of a line as it grows, and what it decides.
use Rattle.std.specs.Prelude.{◌++◌, ◌+◌, ◌-◌, ◌<◌, ◌==◌, ◌∷◌, ◌≡◌, ◌≤◌}
use Rattle.script_jobs.specs.{[], ℕ, BadWord, Begun.Begun, Bool, KEPT_LIMIT, LINE_LIMIT, List, None, capped, false, grown_by, is_blank, kept}
use Rattle.script_jobs.specs.{length, line_said, nat_lt, said, take, true}
use Rattle.script_jobs.proofs.Words.{◌∙◌, ap, append-nil, append_assoc, arith, eqb-true, grown_kept, length-take, lt-ltb, ltb-false, ltb-true, refl, said_kept, suc, sym, take_all, zero}
use Rattle.scope_script.specs.KeptLines.{grown_by as plain_grown_by}

-- ---- the first bytes

-- of a short text they are all
first_all : (line : List ℕ) → length line ≤ KEPT_LIMIT → take KEPT_LIMIT line ≡ line
first_all line short = take_all KEPT_LIMIT line short

-- a line has too many bytes just if its first ones are too many
long_first : (line : List ℕ) → LINE_LIMIT < length line → LINE_LIMIT < length (take KEPT_LIMIT line)
long_first line long = omega (arith, length-take KEPT_LIMIT line, long)

-- a short text and more has the first bytes of both
pub fits_take : (n : ℕ) (xs ys : List ℕ) → length xs ≤ n → xs ++ take (n - length xs) ys ≡ take n (xs ++ ys)
fits_take n [] ys short = let same : n - length {A = ℕ} [] ≡ n = omega arith in ap (λ m. take m ys) same
fits_take zero (x ∷ xs) ys short = absurd (omega (arith, short))
fits_take (suc n) (x ∷ xs) ys short =
    let same : suc n - length (x ∷ xs) ≡ n - length xs = omega arith in
    ap (λ l. x ∷ l) (ap (λ m. xs ++ take m ys) same ∙ fits_take n xs ys (omega (arith, short)))

-- what is kept of a line that goes on: its first bytes, and how many it has
pub grown_so : (begun : Begun) (bytes first : List ℕ) (n : ℕ) → first ≡ take KEPT_LIMIT (begun.first ++ bytes) → n ≡ capped (begun.bytes + length bytes) → (let x : Begun = record { first = first; bytes = n } in x) ≡ grown_by begun bytes
unfolding grown_by
grown_so begun bytes first n is many = λ i. record { first = is i; bytes = many i }

-- ---- what they decide

long_said : (line : List ℕ) → LINE_LIMIT < length line → line_said line ≡ BadWord
unfolding line_said
long_said line long =
    let test : nat_lt LINE_LIMIT (length line) ≡ true = lt-ltb _ _ long in
    rw test refl

said_if : (line : List ℕ) (long : Bool) → nat_lt LINE_LIMIT (length line) ≡ long → line_said (take KEPT_LIMIT line) ≡ line_said line
said_if line true is =
    let long : LINE_LIMIT < length line = ltb-true LINE_LIMIT (length line) is in
    long_said (take KEPT_LIMIT line) (long_first line long) ∙ sym (long_said line long)
said_if line false is = ap line_said (first_all line (omega (arith, ltb-false LINE_LIMIT (length line) is)))

-- what a line says
pub said_first : (line : List ℕ) → line_said (take KEPT_LIMIT line) ≡ line_said line
said_first line = said_if line (nat_lt LINE_LIMIT (length line)) refl

long_kept : (line : List ℕ) → LINE_LIMIT < length line → kept line ≡ None
unfolding kept
long_kept line long =
    let test : nat_lt LINE_LIMIT (length line) ≡ true = lt-ltb _ _ long in
    rw test refl

kept_if : (line : List ℕ) (long : Bool) → nat_lt LINE_LIMIT (length line) ≡ long → kept (take KEPT_LIMIT line) ≡ kept line
kept_if line true is =
    let long : LINE_LIMIT < length line = ltb-true LINE_LIMIT (length line) is in
    long_kept (take KEPT_LIMIT line) (long_first line long) ∙ sym (long_kept line long)
kept_if line false is = ap kept (first_all line (omega (arith, ltb-false LINE_LIMIT (length line) is)))

-- and what a script keeps of it for its replies
kept_first : (line : List ℕ) → kept (take KEPT_LIMIT line) ≡ kept line
kept_first line = kept_if line (nat_lt LINE_LIMIT (length line)) refl

plain_grows : (line bytes : List ℕ) → plain_grown_by (kept line) bytes ≡ kept (line ++ bytes)
unfolding plain_grown_by
plain_grows line [] = ap kept (sym (append-nil line))
plain_grows line (b ∷ bytes) =
    ap (λ k. plain_grown_by k bytes) (grown_kept line b) ∙ (plain_grows (line ++ b ∷ []) bytes ∙ ap kept (append_assoc line (b ∷ []) bytes))

-- ---- the script as it is for its replies

first_grown : (begun : Begun) (bytes : List ℕ) → (grown_by begun bytes).first ≡ take KEPT_LIMIT (begun.first ++ bytes)
unfolding grown_by
first_grown begun bytes = refl

-- a line that goes on by the bytes says what it says there
pub plain_said : (begun : Begun) (bytes : List ℕ) → length begun.first ≤ KEPT_LIMIT → line_said (grown_by begun bytes).first ≡ said (plain_grown_by (kept begun.first) bytes)
plain_said begun bytes short =
    ap line_said (first_grown begun bytes)
    ∙ (said_first (begun.first ++ bytes) ∙ (sym (said_kept (begun.first ++ bytes)) ∙ ap said (sym (plain_grows begun.first bytes))))

-- and is begun as it is there
pub plain_begun : (begun : Begun) (bytes : List ℕ) → length begun.first ≤ KEPT_LIMIT → kept (grown_by begun bytes).first ≡ plain_grown_by (kept begun.first) bytes
plain_begun begun bytes short =
    ap kept (first_grown begun bytes) ∙ (kept_first (begun.first ++ bytes) ∙ sym (plain_grows begun.first bytes))

-- ---- a line that is begun at the end

blank_if : (b : ℕ) (line : List ℕ) (long : Bool) → nat_lt LINE_LIMIT (length (b ∷ line)) ≡ long → is_blank (kept (b ∷ line)) ≡ false
unfolding kept
blank_if b line true is = rw is refl
blank_if b line false is = rw is refl

-- it has no byte just if none is kept of it
pub blank_kept : (line : List ℕ) (none : Bool) → (length line == 0) ≡ none → is_blank (kept line) ≡ none
unfolding kept
blank_kept [] true is = refl
blank_kept [] false is = absurd (let no : true ≡ false = is in cc)
blank_kept (b ∷ line) true is = absurd (let no : length (b ∷ line) ≡ 0 = eqb-true _ _ is in omega arith)
blank_kept (b ∷ line) false is = blank_if b line (nat_lt LINE_LIMIT (length (b ∷ line))) refl
