-- The keyword of a word, by the words of its length alone.
use Rattle.std.proofs.Common.{[], ℕ, ◌&&◌, ◌∷◌, ◌≡◌, ◌≢◌, Bool, List, None, arith, false, length, nat_eq, nat_lt, refl, sym, true}
use Rattle.script_words.specs.{Keyword, bytes_eq, filter, keyword_beside, keyword_said, list_all, worded}
use Rattle.script_words.proofs.Lemmas.{and_parts, bytes_eq-Decides, nat_tests}

-- the rows with words of this length
abbrev pub of_length : ℕ → List (List ℕ × Keyword) → List (List ℕ × Keyword)
of_length n rows = filter (λ row. nat_eq (length row.0) n) rows

-- words of different lengths are different
apart : (word other : List ℕ) → nat_eq (length other) (length word) ≡ false → bytes_eq word other ≡ false
apart word other is = grind (arith, nat_tests, bytes_eq-Decides word other)

skip_at : (word : List ℕ) (row : List ℕ × Keyword) (rows : List (List ℕ × Keyword)) (same : Bool) → nat_eq (length row.0) (length word) ≡ same
    → keyword_beside (of_length (length word) rows) word ≡ keyword_beside rows word → keyword_beside (of_length (length word) (row ∷ rows)) word ≡ keyword_beside (row ∷ rows) word
skip_at word row rows true is others = rw is (rw others refl)
skip_at word row rows false is others = rw (is, apart word row.0 is) others

-- no other rows matter
skip : (word : List ℕ) (rows : List (List ℕ × Keyword)) → keyword_beside (of_length (length word) rows) word ≡ keyword_beside rows word
skip word [] = refl
skip word (row ∷ rows) = skip_at word row rows (nat_eq (length row.0) (length word)) refl (skip word rows)

pub said_by_length : (word : List ℕ) (n : ℕ) → length word ≡ n → keyword_beside (of_length n worded) word ≡ keyword_said word
unfolding keyword_said
said_by_length word n is = rw (sym is) (skip word worded)

-- from two bytes to six
abbrev pub is_within : ℕ → Bool
is_within n = nat_lt 1 n && nat_lt n 7

none_at : (word : List ℕ) (row : List ℕ × Keyword) (rows : List (List ℕ × Keyword)) → is_within (length row.0) ≡ true → is_within (length word) ≡ false
    → keyword_beside rows word ≡ None → keyword_beside (row ∷ rows) word ≡ None
none_at word row rows inside outside others =
    let other : nat_eq (length row.0) (length word) ≡ false = grind (arith, nat_tests) in
    rw (apart word row.0 other) others

-- a word of another length stands in no row
none_beside : (word : List ℕ) (rows : List (List ℕ × Keyword)) → list_all (λ row. is_within (length row.0)) rows ≡ true → is_within (length word) ≡ false → keyword_beside rows word ≡ None
none_beside word [] inside outside = refl
none_beside word (row ∷ rows) inside outside =
    let parts = and_parts (is_within (length row.0)) (list_all (λ row. is_within (length row.0)) rows) inside in
    none_at word row rows parts.0 outside (none_beside word rows parts.1 outside)

pub said_of_no_length : (word : List ℕ) → length word ≢ 2 → length word ≢ 3 → length word ≢ 4 → length word ≢ 5 → length word ≢ 6 → None ≡ keyword_said word
unfolding keyword_said
said_of_no_length word two three four five six =
    let outside : is_within (length word) ≡ false = grind (arith, nat_tests) in
    sym (none_beside word worded refl outside)
