-- Why a line is no command: the first of its fields that its form does not have there.
use Rattle.std.specs.Prelude.{if◌then◌else◌, ◌+◌, ◌∷◌, ◌≡◌}
use Rattle.refusal_reasons.specs.Words.{[], ℕ, BadWord, Bool, FieldKind, Keyword, LINE_LIMIT, Line, List, None, OpenWord, Option, Silent, Slot, Some, WordFault}
use Rattle.refusal_reasons.specs.Words.{begins_comment, false, field_said, fields, is_some, keyword_said, length, line_said, nat_lt, option_said, slots, true}

-- the word is what a field of this kind is to be
abbrev pub is_kind : FieldKind → List ℕ → Bool
is_kind FieldKind.Actor word = is_some (field_said FieldKind.Actor word)
is_kind k word = is_some (field_said k word)

-- the word is this one of an open
abbrev pub is_open_word : OpenWord → List ℕ → Bool
is_open_word OpenWord.Joiner word = is_some (option_said OpenWord.Joiner word)
is_open_word o word = is_some (option_said o word)

-- the first of these fields, counted from n, that is not of its kind, is missing or is too many
unfoldable pub misfit : Keyword → ℕ → List Slot → List (List ℕ) → Option WordFault
misfit f n [] [] = None
misfit f n [] (word ∷ words) = Some (WordFault.Extra f n)
misfit f n (Slot.Must k ∷ ks) [] = Some (WordFault.Missing f k)
misfit f n (Slot.Must k ∷ ks) (word ∷ words) = if is_kind k word then misfit f (n + 1) ks words else Some (WordFault.Wrong f n k)
misfit f n (Slot.May o ∷ ks) [] = misfit f n ks []
misfit f n (Slot.May o ∷ ks) (word ∷ words) = if is_open_word o word then misfit f (n + 1) ks words else misfit f n ks (word ∷ words)

-- the same behind the first word, if a form begins with it
abbrev pub form_fault : Option Keyword → List (List ℕ) → Option WordFault
form_fault None args = Some WordFault.NoForm
form_fault (Some f) args = misfit f 0 (slots f) args

-- no field, or a first one that begins with `#`: there is nothing to say
unfoldable pub fields_fault : List (List ℕ) → Option WordFault
fields_fault [] = None
fields_fault (word ∷ args) = if begins_comment word then None else form_fault (keyword_said word) args

-- why the line, without its line feed, is no command, if it is none
unfoldable pub fault_of : List ℕ → Option WordFault
fault_of line = if nat_lt LINE_LIMIT (length line) then Some (WordFault.TooLong (length line)) else fields_fault (fields line)

-- a line has a fault just where it is a bad word
abbrev pub is_bad : Line → Bool
is_bad Silent = false
is_bad BadWord = true
is_bad (Line.Command command) = false

abbrev pub FaultsFit : Type 0
FaultsFit = (line : List ℕ) → is_bad (line_said line) ≡ is_some (fault_of line)
