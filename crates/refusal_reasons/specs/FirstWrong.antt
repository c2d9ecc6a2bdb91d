-- That a fault names the first field of its line that is wrong.
use Rattle.std.specs.Prelude.{◌++◌, ◌+◌, ◌<◌, ◌∷◌, ◌≡◌, ◌⊎◌}
use Rattle.refusal_reasons.specs.Words.{[], ℕ, Bool, Keyword, LINE_LIMIT, List, None, OpenWord, Option, Slot, Some, WordFault, false, fields, keyword_said, length, slots, true}
use Rattle.refusal_reasons.specs.Faults.{fault_of, is_kind, is_open_word}

-- the next of these words is this one of an open
abbrev pub is_next : OpenWord → List (List ℕ) → Bool
is_next o [] = false
is_next o (word ∷ words) = is_open_word o word

-- the first of these words is so, and P of the others
abbrev pub First : (List ℕ → Bool) → (List (List ℕ) → Type 0) → List (List ℕ) → Type 0
First is P words = (word : List ℕ) × (others : List (List ℕ)) × (words ≡ word ∷ others) × (is word ≡ true) × P others

-- the slots take these words, where the rest follows: one of its kind each, and of an open's words those that come next
abbrev pub Takes : List Slot → (rest words : List (List ℕ)) → Type 0
Takes [] rest words = words ≡ []
Takes (Slot.Must k ∷ ks) rest words = First (is_kind k) (Takes ks rest) words
Takes (Slot.May o ∷ ks) rest words = First (is_open_word o) (Takes ks rest) words ⊎ ((is_next o (words ++ rest) ≡ false) × Takes ks rest words)

-- these slots are left, and the rest of the words, behind the first ones; fields are counted from m
pub record Reaches (m : ℕ) (ks : List Slot) (args : List (List ℕ)) (n : ℕ) (left : List Slot) (rest : List (List ℕ)) : Type 0 where
  pub before : List Slot
  pub words : List (List ℕ)
  pub form : ks ≡ before ++ left
  pub whole : args ≡ words ++ rest
  pub right : Takes before rest words
  pub place : n ≡ m + length words

-- the fault of words in this form: the first field that is not of its kind, or is missing, or is one too many
abbrev pub Names : Keyword → ℕ → List Slot → List (List ℕ) → WordFault → Type 0
Names f m ks args (WordFault.TooLong bytes) = ⊥
Names f m ks args WordFault.NoForm = ⊥
Names f m ks args (WordFault.Wrong g n k) = (g ≡ f) × (left : List Slot) × (word : List ℕ) × (others : List (List ℕ)) × Reaches m ks args n (Slot.Must k ∷ left) (word ∷ others) × (is_kind k word ≡ false)
Names f m ks args (WordFault.Missing g k) = (g ≡ f) × (n : ℕ) × (left : List Slot) × Reaches m ks args n (Slot.Must k ∷ left) []
Names f m ks args (WordFault.Extra g n) = (g ≡ f) × (word : List ℕ) × (others : List (List ℕ)) × Reaches m ks args n [] (word ∷ others)

-- the fault of words behind a first one, with which this form begins, or none
abbrev pub NamesIn : Option Keyword → List (List ℕ) → WordFault → Type 0
NamesIn None args WordFault.NoForm = Unit {0}
NamesIn None args _ = ⊥
NamesIn (Some f) args fault = Names f 0 (slots f) args fault

-- the fault of these fields
abbrev pub NamesField : List (List ℕ) → WordFault → Type 0
NamesField [] fault = ⊥
NamesField (word ∷ args) fault = NamesIn (keyword_said word) args fault

-- the fault of a line: it has too many bytes, or else its first field that is wrong is named
abbrev pub NamesFirst : List ℕ → WordFault → Type 0
NamesFirst line (WordFault.TooLong bytes) = (bytes ≡ length line) × (LINE_LIMIT < length line)
NamesFirst line fault = NamesField (fields line) fault

-- each fault names the first field that is wrong
abbrev pub FaultsNameFirst : Type 0
FaultsNameFirst = (line : List ℕ) (fault : WordFault) → fault_of line ≡ Some fault → NamesFirst line fault
