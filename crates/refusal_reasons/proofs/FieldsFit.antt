-- A line has a fault just where it is a bad word.
use Rattle.std.specs.Prelude.{◌+◌, ◌∷◌, ◌≡◌}
use Rattle.refusal_reasons.specs.{[], ℕ, ◌>>=◌, Bool, Chosen, Command, FieldKind, Keyword, LINE_LIMIT, Line, List, Maker, None, OpenWord, Option, Said, Slot, Some, WordFault, begins_comment, command_said}
use Rattle.refusal_reasons.specs.{false, fault_of, field_said, fields, fields_fault, fields_said, first_said, form_fault, form_said, found_or, is_bad, is_kind, is_open_word, is_some, just_one, keyword_said}
use Rattle.refusal_reasons.specs.{left_out, length, line_of, line_said, made, made_of, misfit, nat_lt, next_said, not, option_map, option_said, slots, true}
use Rattle.refusal_reasons.proofs.Lemmas.{◌∙◌, ap, cond, refl, said_by_fields}

pub due_is : (o : Option ℕ) → is_some (option_map (λ (n : ℕ). Some n) o) ≡ is_some o
due_is None = refl
due_is (Some n) = refl

pub flag_is : {A : Type 0} (b : Bool) (x : A) → is_some (cond b (Some x) None) ≡ b
flag_is true x = refl
flag_is false x = refl

in_any_case : (b : Bool) (x y : WordFault) → true ≡ is_some (cond b (Some x) (Some y))
in_any_case true x y = refl
in_any_case false x y = refl

-- what a field says, with those behind it
abbrev behind : {A : Type 0} → List (List ℕ) → Option A → Option (A × List (List ℕ))
behind words o = option_map (λ x. (x, words)) o

-- ---- a form makes nothing of words just if there is a fault

kind_is : (k : FieldKind) (word : List ℕ) → is_kind k word ≡ is_some (field_said k word)
kind_is FieldKind.Actor word = refl
kind_is _ word = refl

option_is : (o : OpenWord) (word : List ℕ) → is_open_word o word ≡ is_some (option_said o word)
option_is OpenWord.Joiner word = refl
option_is _ word = refl

only_fits : {A : Type 0} (made : A → Command) (o : Option A) (x : WordFault) → not (is_some (option_map made o)) ≡ is_some (cond (is_some o) None (Some x))
only_fits made None x = refl
only_fits made (Some y) x = refl

module _ (f : Keyword) where
  made_fits : (n : ℕ) (ks : List Slot) (made : Maker ks) (words : List (List ℕ)) → not (is_some (made_of ks made words)) ≡ is_some (misfit f n ks words)
  unfolding misfit first_said just_one next_said
  made_fits n [] made [] = refl
  made_fits n [] made (word ∷ words) = refl
  made_fits n (Slot.Must k ∷ []) made [] = refl
  made_fits n (Slot.Must k ∷ []) made (word ∷ []) = rw (kind_is k word) (only_fits made (field_said k word) (WordFault.Wrong f n k))
  made_fits n (Slot.Must k ∷ []) made (word ∷ other ∷ words) = in_any_case (is_kind k word) (WordFault.Extra f (n + 1)) (WordFault.Wrong f n k)
  made_fits n (Slot.Must k ∷ slot ∷ ks) made [] = refl
  made_fits n (Slot.Must k ∷ slot ∷ ks) made (word ∷ words) = rw (kind_is k word) (by (field_said k word) (λ x. made_fits (n + 1) (slot ∷ ks) (made x) words))
    where
      by : (o : Option (Said k)) → ((x : Said k) → not (is_some (made_of (slot ∷ ks) (made x) words)) ≡ is_some (misfit f (n + 1) (slot ∷ ks) words))
          → not (is_some (behind words o >>= (λ found. made_of (slot ∷ ks) (made found.0) found.1))) ≡ is_some (cond (is_some o) (misfit f (n + 1) (slot ∷ ks) words) (Some (WordFault.Wrong f n k)))
      by None later = refl
      by (Some x) later = later x
  made_fits n (Slot.May w ∷ ks) made [] = made_fits n ks (made (left_out w)) []
  made_fits n (Slot.May w ∷ ks) made (word ∷ words) = rw (option_is w word) (by (option_said w word) (λ x. made_fits (n + 1) ks (made x) words) (made_fits n ks (made (left_out w)) (word ∷ words)))
    where
      by : (o : Option (Chosen w)) → ((x : Chosen w) → not (is_some (made_of ks (made x) words)) ≡ is_some (misfit f (n + 1) ks words)) → not (is_some (made_of ks (made (left_out w)) (word ∷ words))) ≡ is_some (misfit f n ks (word ∷ words))
          → not (is_some (made_of ks (made (found_or (left_out w) word words o).0) (found_or (left_out w) word words o).1)) ≡ is_some (cond (is_some o) (misfit f (n + 1) ks words) (misfit f n ks (word ∷ words)))
      by None taken passed = passed
      by (Some x) taken passed = taken x

-- ---- lines

bad_if : (o : Option Command) → is_bad (line_of o) ≡ not (is_some o)
bad_if None = refl
bad_if (Some c) = refl

word_fits : (args : List (List ℕ)) (o : Option Keyword) → is_bad (line_of (o >>= (λ f. form_said f args))) ≡ is_some (form_fault o args)
word_fits args None = refl
word_fits args (Some f) = bad_if (form_said f args) ∙ (ap (λ o. not (is_some o)) (said_by_fields f args) ∙ made_fits f 0 (slots f) (made f) args)

fields_fit : (words : List (List ℕ)) → is_bad (fields_said words) ≡ is_some (fields_fault words)
unfolding fields_said fields_fault command_said
fields_fit [] = refl
fields_fit (word ∷ args) = by (begins_comment word) (word_fits args (keyword_said word))
  where
    by : (b : Bool) → is_bad (line_of (keyword_said word >>= (λ f. form_said f args))) ≡ is_some (form_fault (keyword_said word) args) → is_bad (cond b Line.Silent (line_of (keyword_said word >>= (λ f. form_said f args)))) ≡ is_some (cond b None (form_fault (keyword_said word) args))
    by true so = refl
    by false so = so

pub faults_fit : (text : List ℕ) → is_bad (line_said text) ≡ is_some (fault_of text)
unfolding line_said fault_of
faults_fit text = by (nat_lt LINE_LIMIT (length text)) (fields_fit (fields text))
  where
    by : (b : Bool) → is_bad (fields_said (fields text)) ≡ is_some (fields_fault (fields text)) → is_bad (cond b Line.BadWord (fields_said (fields text))) ≡ is_some (cond b (Some (WordFault.TooLong (length text))) (fields_fault (fields text)))
    by true so = refl
    by false so = so
