-- A word that may be a name says the one name with its text.
use Rattle.std.proofs.Common.{ℕ, ◌-◌, ◌∙◌, ◌≡◌, Bool, List, None, Some, ap, false, length, refl, replicate, sym, true}
use Rattle.script_words.specs.{Name, filled_up, is_name, is_stored, name_if, name_of, name_said, text_of}
use Rattle.script_words.proofs.Lemmas.{name_is_stored, other_is_not_stored, same_text, take-append_seam}

text_of_name_of : (word : List ℕ) (stored : is_stored (length word) (filled_up word) ≡ true) → text_of (name_of word stored) ≡ word
unfolding filled_up
text_of_name_of word stored = take-append_seam word (replicate (24 - length word) 0)

if_some : (word : List ℕ) (b : Bool) (is : is_stored (length word) (filled_up word) ≡ b) (name : Name) → b ≡ true → text_of name ≡ word → name_if word b is ≡ Some name
if_some word true is name holds text = ap Some (same_text (name_of word is) name (text_of_name_of word is ∙ sym text))
if_some word false is name holds text = absurd cc

if_none : (word : List ℕ) (b : Bool) (is : is_stored (length word) (filled_up word) ≡ b) → b ≡ false → name_if word b is ≡ None
if_none word true is fails = absurd cc
if_none word false is fails = refl

-- it is the name that has the text
pub name_said_some : (word : List ℕ) (name : Name) → is_name word ≡ true → text_of name ≡ word → name_said word ≡ Some name
unfolding name_said
name_said_some word name named text = if_some word (is_stored (length word) (filled_up word)) refl name (name_is_stored word named) text

pub name_said_none : (word : List ℕ) → is_name word ≡ false → name_said word ≡ None
unfolding name_said
name_said_none word unnamed = if_none word (is_stored (length word) (filled_up word)) refl (other_is_not_stored word unnamed)
