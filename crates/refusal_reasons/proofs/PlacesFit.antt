-- A field stands where it is said to.
use Rattle.std.specs.Prelude.{◌++◌, ◌+◌, ◌-◌, ◌∷◌, ◌≡◌}
use Rattle.refusal_reasons.specs.{[], ℕ, Bool, List, None, Some, behind_first, drop, false, field_at, field_place, fields, first_and_rest, is_space, length, position_or_len}
use Rattle.refusal_reasons.specs.{suc, take, text_from, true, without_spaces, zero}
use Rattle.refusal_reasons.proofs.Lemmas.{◌∙◌, ap, append_assoc, arith, cond, drop-append_seam, length-append, next_none, next_some, refl, some_pair_parts, subst, sym, take-append-drop}

-- ---- the text from a field on is an end of the line

abbrev EndOf : (line text : List ℕ) → Type 0
EndOf line text = (before : List ℕ) × (line ≡ before ++ text)

spaces_before : (text : List ℕ) → EndOf text (without_spaces text)
unfolding without_spaces
spaces_before [] = ([], refl)
spaces_before (b ∷ bs) = by (is_space b) (spaces_before bs)
  where
    by : (space : Bool) → EndOf bs (without_spaces bs) → EndOf (b ∷ bs) (cond space (without_spaces bs) (b ∷ bs))
    by true below = (b ∷ below.0, ap (λ (t : List ℕ). b ∷ t) below.1)
    by false below = ([], refl)

field_before : (text : List ℕ) → EndOf text (behind_first text)
field_before text = (take (position_or_len is_space text) text, sym (take-append-drop (position_or_len is_space text) text))

further : (line text more : List ℕ) → EndOf line text → EndOf text more → EndOf line more
further line text more first second = (first.0 ++ second.0, first.1 ∙ (ap (λ (t : List ℕ). first.0 ++ t) second.1 ∙ sym (append_assoc first.0 second.0 more)))

from_end : (line : List ℕ) (n : ℕ) → EndOf line (text_from line n)
unfolding text_from
from_end line zero = spaces_before line
from_end line (suc n) =
    let rest = behind_first (without_spaces line) in
    further line rest (text_from rest n) (further line (without_spaces line) rest (spaces_before line) (field_before (without_spaces line))) (from_end rest n)

-- ---- it begins with the field

abbrev front : List ℕ → List ℕ
front text = take (position_or_len is_space text) text

data Begins (text : List ℕ) : Type 0 where
  nothing : without_spaces text ≡ [] → fields text ≡ [] → Begins text
  field : fields text ≡ front (without_spaces text) ∷ fields (behind_first (without_spaces text)) → Begins text

none_are : (fs : List (List ℕ)) → None ≡ first_and_rest fs → fs ≡ []
none_are [] none = refl
none_are (f ∷ fs) none = absurd cc

some_are : (fs : List (List ℕ)) (f : List ℕ) (others : List (List ℕ)) → Some (f, others) ≡ first_and_rest fs → fs ≡ f ∷ others
some_are [] f others some = absurd cc
some_are (g ∷ gs) f others some = let parts = some_pair_parts f g others gs some in sym (ap (λ (x : List ℕ). x ∷ others) parts.0 ∙ ap (λ (xs : List (List ℕ)). g ∷ xs) parts.1)

begins : (text : List ℕ) → Begins text
begins text = by (without_spaces text) refl
  where
    by : (rest : List ℕ) → without_spaces text ≡ rest → Begins text
    by [] is = nothing is (none_are (fields text) (next_none text [] (sym is) refl))
    by (b ∷ bs) is =
        let some = next_some text (b ∷ bs) (front (b ∷ bs)) (behind_first (b ∷ bs)) (position_or_len is_space (b ∷ bs)) (sym is) (omega arith) refl refl refl in
        field (subst (λ (t : List ℕ). fields text ≡ front t ∷ fields (behind_first t)) (sym is) (some_are (fields text) (front (b ∷ bs)) (fields (behind_first (b ∷ bs))) some))

empty_front : front [] ≡ []
empty_front = refl

empty_fields : fields [] ≡ []
unfolding fields
empty_fields = refl

first_is : (text : List ℕ) → front (without_spaces text) ≡ field_at (fields text) 0
unfolding field_at
first_is text = elim (begins text) [
  | nothing none no_field ↦ rw (none, no_field) refl
  | field is ↦ rw is refl
]

later_none : (n : ℕ) → field_at [] n ≡ []
unfolding field_at
later_none n = refl

later_is : (text : List ℕ) (n : ℕ) → field_at (fields (behind_first (without_spaces text))) n ≡ field_at (fields text) (suc n)
unfolding field_at
later_is text n = elim (begins text) [
  | nothing none no_field ↦ rw (none, no_field, empty_fields) refl
  | field is ↦ rw is refl
]

field_is : (line : List ℕ) (n : ℕ) → front (text_from line n) ≡ field_at (fields line) n
unfolding text_from
field_is line zero = first_is line
field_is line (suc n) = field_is (behind_first (without_spaces line)) n ∙ later_is line n

-- ---- where it stands

dropped : (before text : List ℕ) → drop (length (before ++ text) - length text + 1 - 1) (before ++ text) ≡ text
dropped before text =
    let count : length (before ++ text) - length text + 1 - 1 ≡ length before = omega (arith, length-append before text) in
    ap (λ (n : ℕ). drop n (before ++ text)) count ∙ drop-append_seam before text

dropped_at : (line text : List ℕ) → EndOf line text → drop (length line - length text + 1 - 1) line ≡ text
dropped_at line text end = ap (λ (l : List ℕ). drop (length l - length text + 1 - 1) l) end.1 ∙ dropped end.0 text

pub places_fit : (line : List ℕ) (n : ℕ) → take (field_place line n).width (drop ((field_place line n).column - 1) line) ≡ field_at (fields line) n
unfolding field_place
places_fit line n = ap (take (position_or_len is_space (text_from line n))) (dropped_at line (text_from line n) (from_end line n)) ∙ field_is line n
