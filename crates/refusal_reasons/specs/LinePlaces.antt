-- Where a field stands in its line.
use Rattle.std.specs.Prelude.{◌+◌, ◌-◌, ◌∷◌, ◌≡◌}
use Rattle.refusal_reasons.specs.Words.{[], ℕ, LINE_LIMIT, List, Place, WordFault, drop, fields, is_space, length, position_or_len, suc, take, without_spaces, zero}

-- the field at the index; no bytes if there is none
unfoldable pub field_at : List (List ℕ) → ℕ → List ℕ
field_at [] n = []
field_at (word ∷ words) zero = word
field_at (word ∷ words) (suc n) = field_at words n

-- what stands behind the first field of a text
abbrev pub behind_first : List ℕ → List ℕ
behind_first text = drop (position_or_len is_space text) text

-- the text from its field of this index on; no bytes if there is none
unfoldable pub text_from : List ℕ → ℕ → List ℕ
text_from text zero = without_spaces text
text_from text (suc n) = text_from (behind_first (without_spaces text)) n

-- where the field of this index stands, counted from 1, and how many bytes it has; behind the line if there is none
unfoldable pub field_place : List ℕ → ℕ → Place
field_place line n = record {
  column = length line - length (text_from line n) + 1;
  width = position_or_len is_space (text_from line n);
}

-- where the line ends
abbrev pub end_of : List ℕ → Place
end_of line = record { column = length line + 1; width = 0 }

-- if a line is wrong: at the byte behind the last that it may have, at a field, or at its end
unfoldable pub place_of : List ℕ → WordFault → Place
place_of line (WordFault.TooLong bytes) = record { column = LINE_LIMIT + 1; width = 0 }
place_of line WordFault.NoForm = field_place line 0
place_of line (WordFault.Wrong s n k) = field_place line (suc n)
place_of line (WordFault.Missing s k) = end_of line
place_of line (WordFault.Extra s n) = field_place line (suc n)

-- a field stands where it is said to
abbrev pub PlacesFit : Type 0
PlacesFit = (line : List ℕ) (n : ℕ) → take (field_place line n).width (drop ((field_place line n).column - 1) line) ≡ field_at (fields line) n
