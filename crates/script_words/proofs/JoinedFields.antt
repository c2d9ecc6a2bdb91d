-- Words with a space between each two are the fields of the line that they make.
use Rattle.std.proofs.Common.{[], ℕ, ◌&&◌, ◌*◌, ◌++◌, ◌∙◌, ◌∷◌, ◌≡◌, ◌≤◌, Bool, List, ap, arith, false, length, length-append, nat_le, not, refl, true}
use Rattle.std.specs.List.{All}
use Rattle.script_words.specs.{fields, is_field, is_space, join_with_byte, list_all}
use Rattle.script_words.proofs.Lemmas.{AllPass-from_list_all, nat_tests, slice_split_at, slice_split_none}

abbrev pub has_no_space : List ℕ → Bool
has_no_space word = list_all (λ b. not (is_space b)) word

-- a field of at most 30 bytes
abbrev pub is_word : List ℕ → Bool
is_word word = is_field word && (has_no_space word && nat_le (length word) 30)

not_true : (b : Bool) → not b ≡ true → b ≡ false
not_true true is = absurd cc
not_true false is = refl

none_is_space : (word : List ℕ) → has_no_space word ≡ true → All (λ b. is_space b ≡ false) word
none_is_space word is =
    let passes = AllPass-from_list_all (λ b. not (is_space b)) word is in
    λ k d within. not_true _ (passes k d within)

field_alone : (word : List ℕ) → is_field word ≡ true → has_no_space word ≡ true → fields word ≡ word ∷ []
unfolding fields
field_alone word field plain =
    let split = slice_split_none is_space word (none_is_space word plain) in
    rw split (rw field refl)

field_before : (word rest : List ℕ) → is_field word ≡ true → has_no_space word ≡ true → fields (word ++ 32 ∷ rest) ≡ word ∷ fields rest
unfolding fields
field_before word rest field plain =
    let split = slice_split_at is_space word 32 rest (none_is_space word plain) refl in
    rw split (rw field refl)

pub record WordParts (word : List ℕ) : Type 0 where
  pub field : is_field word ≡ true
  pub plain : has_no_space word ≡ true
  pub short : nat_le (length word) 30 ≡ true

both : (a b : Bool) → (a && b) ≡ true → (a ≡ true) × (b ≡ true)
both a b is = grind arith

parts_of : (word : List ℕ) → is_word word ≡ true → WordParts word
parts_of word is =
    let first = both (is_field word) (has_no_space word && nat_le (length word) 30) is in
    let second = both (has_no_space word) (nat_le (length word) 30) first.1 in
    record { field = first.0; plain = second.0; short = second.1 }

pub fields_of_joined : (words : List (List ℕ)) → list_all is_word words ≡ true → fields (join_with_byte 32 words) ≡ words
unfolding fields
fields_of_joined [] are = refl
fields_of_joined (word ∷ []) are =
    let parts = parts_of word (both (is_word word) true are).0 in
    field_alone word parts.field parts.plain
fields_of_joined (word ∷ second ∷ others) are =
    let here = both (is_word word) (list_all is_word (second ∷ others)) are in
    let parts = parts_of word here.0 in
    let below = fields_of_joined (second ∷ others) here.1 in
    field_before word (join_with_byte 32 (second ∷ others)) parts.field parts.plain ∙ ap (λ ws. word ∷ ws) below

le_30 : (word : List ℕ) → nat_le (length word) 30 ≡ true → length word ≤ 30
le_30 word is = grind (arith, nat_tests)

pub length_of_joined : (words : List (List ℕ)) → list_all is_word words ≡ true → length (join_with_byte 32 words) ≤ 31 * length words
length_of_joined [] are = omega arith
length_of_joined (word ∷ []) are =
    let parts = parts_of word (both (is_word word) true are).0 in
    omega (arith, le_30 word parts.short)
length_of_joined (word ∷ second ∷ others) are =
    let here = both (is_word word) (list_all is_word (second ∷ others)) are in
    let parts = parts_of word here.0 in
    let below = length_of_joined (second ∷ others) here.1 in
    rw length-append (omega (arith, le_30 word parts.short, below))
