-- A number that is read from a field as the field is walked.
use Rattle.std.proofs.Common.{[], ℕ, ◌<◌, ◌∙◌, ◌∷◌, ◌≡◌, ◌≢◌, ◌≤◌, Bool, List, None, Option, Some, ap, arith, drop, false, get_or, length, nat_le, option_map, refl, sym, true}
use Rattle.script_words.specs.{◌>>=◌, fields, first_and_rest, first_said, is_ascii_digit, is_numeral, is_space, just_one, list_all, number_said, position_or_len, without_spaces, word_ahead}
use Rattle.script_words.proofs.Lemmas.{list_all_at, nat_tests, passes_at_first, take_all}
use Rattle.script_words.proofs.FieldSteps.{next_none, next_some}

-- no field, or a first one that is no number
pub first_refused : (text rest : List ℕ) (limit : ℕ) → rest ≡ without_spaces text → None ≡ number_said limit (word_ahead rest) → None ≡ first_said (number_said limit) (fields text)
unfolding first_said
first_refused text [] limit is none = rw (sym (next_none text [] is refl)) refl
first_refused text (b ∷ bs) limit is none =
    let found = next_some text (b ∷ bs) _ _ _ is (λ e. absurd (omega (arith, e))) refl refl refl in
    rw (sym found) (rw (sym none) refl)

-- a first field that is a number
pub first_found : (text rest back : List ℕ) (limit n place : ℕ) → rest ≡ without_spaces text → Some n ≡ number_said limit (word_ahead rest) → place ≡ position_or_len is_space rest → back ≡ drop place rest → Some (n, fields back) ≡ first_said (number_said limit) (fields text)
unfolding first_said number_said is_numeral
first_found text [] back limit n place is some here tail = absurd cc
first_found text (b ∷ bs) back limit n place is some here tail =
    let found = next_some text (b ∷ bs) _ back place is (λ e. absurd (omega (arith, e))) here refl tail in
    rw (sym found) (rw (here, sym some) refl)

-- a text without a space is its first word
whole : (text : List ℕ) → length text ≡ position_or_len is_space text → word_ahead text ≡ text
whole text all = take_all (position_or_len is_space text) text (omega (arith, all))

pub said_whole : (text : List ℕ) (limit : ℕ) → length text ≡ position_or_len is_space text → number_said limit text ≡ number_said limit (word_ahead text)
said_whole text limit all = ap (number_said limit) (sym (whole text all))

-- one with a space is no number
spaced : (text : List ℕ) (limit : ℕ) → position_or_len is_space text < length text → None ≡ number_said limit text
unfolding number_said is_numeral
spaced text limit some =
    let first : is_space (get_or text (position_or_len is_space text) 0) ≡ true = passes_at_first is_space text 0 some in
    let space : get_or text (position_or_len is_space text) 0 ≡ 32 = grind (arith, nat_tests) in
    let other : is_ascii_digit (get_or text (position_or_len is_space text) 0) ≡ false = rw space refl in
    let digits : list_all is_ascii_digit text ≡ false = list_all_at is_ascii_digit text (position_or_len is_space text) 0 some other in
    grind (arith, digits)

-- with a first word that says none, or with more words, a text says none
not_said_at : (text : List ℕ) (limit : ℕ) (ends : Bool) → nat_le (length text) (position_or_len is_space text) ≡ ends → None ≡ number_said limit (word_ahead text) → None ≡ number_said limit text
not_said_at text limit true is none =
    let all : length text ≤ position_or_len is_space text = grind (arith, nat_tests) in
    none ∙ ap (number_said limit) (take_all (position_or_len is_space text) text all)
not_said_at text limit false is none = spaced text limit (grind (arith, nat_tests))

pub not_said : (text : List ℕ) (limit : ℕ) → None ≡ number_said limit (word_ahead text) → None ≡ number_said limit text
not_said text limit none = not_said_at text limit (nat_le (length text) (position_or_len is_space text)) refl none

pub not_whole : (text : List ℕ) (limit place : ℕ) → place ≡ position_or_len is_space text → place ≤ length text → length text ≢ place → None ≡ number_said limit text
not_whole text limit place here within other = spaced text limit (omega (arith, here, other, within))

-- ---- the only field

-- the number, unless fields follow
abbrev pub if_last : ℕ → Option (List ℕ × List (List ℕ)) → Option ℕ
if_last n None = Some n
if_last n (Some others) = None

-- what a number said is handed on to, with the fields behind it
handed : (number : Option ℕ) (others : List (List ℕ)) (next : ℕ × List (List ℕ) → Option ℕ) → (number >>= (λ n. next (n, others))) ≡ (option_map (λ n. (n, others)) number >>= next)
handed None others next = refl
handed (Some n) others next = refl

itself : (number : Option ℕ) → number ≡ (number >>= (λ n. Some n))
itself None = refl
itself (Some n) = refl

nothing : (number made : Option ℕ) → made ≡ None → made ≡ (number >>= (λ n. made))
nothing None made is = is
nothing (Some n) made is = refl

pub last_by_steps : (limit : ℕ) (fs : List (List ℕ)) → (just_one fs >>= number_said limit) ≡ (first_said (number_said limit) fs >>= (λ p. if_last p.0 (first_and_rest p.1)))
unfolding first_said just_one
last_by_steps limit [] = refl
last_by_steps limit (first ∷ []) = itself (number_said limit first) ∙ handed (number_said limit first) [] (λ p. if_last p.0 (first_and_rest p.1))
last_by_steps limit (first ∷ second ∷ others) = nothing (number_said limit first) None refl ∙ handed (number_said limit first) (second ∷ others) (λ p. if_last p.0 (first_and_rest p.1))
