-- The line of a command says that command.
use Rattle.std.proofs.Common.{[], ℕ, ◌∷◌, ◌≡◌, ◌≤◌, List, None, Some, arith, false, length, length-append, nat_le, nat_lt, refl, true}
use Rattle.script_words.specs.{Chosen, FieldFits, FieldKind, HasWords, IsSmall, Keyword, LINE_LIMIT, LineSaysTheCommand, OpenWord, OptionFits, Row, RowFits, Said, Slot, Values, ValuesFit, decimal, field_word}
use Rattle.script_words.specs.{line_said, list_all, option_words, row, row_of, row_words, slots, spelled, values_words, keyword_word, words_of}
use Rattle.script_words.proofs.Lemmas.{list_all-append, nat_tests}
use Rattle.script_words.proofs.{JoinedFields.fields_of_joined, JoinedFields.is_word, JoinedFields.length_of_joined, PlainWords.deadline_is_word, PlainWords.name_is_word, PlainWords.number_is_word, PlainWords.policy_is_word}
use Rattle.script_words.proofs.{PlainWords.value_is_word, SpelledCommands.words_say_the_command}
use Rattle.scope_rules.specs.declared.types.events.Expiry.TheVariants as expiry
use Rattle.script_words.specs.declared.keywords.Keyword.TheVariants as keyword

small_is_word : (n : ℕ) → IsSmall n → is_word (decimal n) ≡ true
small_is_word n small = number_is_word n (omega (arith, small))

field_is_word : (k : FieldKind) (said : Said k) → FieldFits k said → is_word (field_word k said) ≡ true
field_is_word FieldKind.Moment moment fits = number_is_word moment fits
field_is_word FieldKind.Deadline None fits = refl
field_is_word FieldKind.Deadline (Some moment) fits = number_is_word moment fits
field_is_word FieldKind.Name name fits = name_is_word name
field_is_word FieldKind.Value value fits = value_is_word value fits
field_is_word _ number fits = small_is_word number fits

-- a word that may be left out is one, or none
record MayBeWord (words : List (List ℕ)) : Type 0 where
  plain : list_all is_word words ≡ true
  few : length words ≤ 1

no_word : MayBeWord []
no_word = record { plain = refl; few = omega arith }

one_word : (word : List ℕ) → is_word word ≡ true → MayBeWord (word ∷ [])
one_word word is = record { plain = rw is refl; few = omega arith }

option_is_word : (o : OpenWord) (chosen : Chosen o) → OptionFits o chosen → MayBeWord (option_words o chosen)
option_is_word OpenWord.Joiner policy fits = one_word _ (policy_is_word policy fits)
option_is_word OpenWord.Deadline None fits = no_word
option_is_word OpenWord.Deadline (Some moment) fits = one_word _ (deadline_is_word moment fits)
option_is_word OpenWord.MoveOn expiry.Fail fits = no_word
option_is_word OpenWord.MoveOn expiry.MoveOn fits = one_word _ refl
option_is_word OpenWord.Shield false fits = no_word
option_is_word OpenWord.Shield true fits = one_word _ refl

-- all are words, and no more than the fields
record AreWords (slots : List Slot) (words : List (List ℕ)) : Type 0 where
  plain : list_all is_word words ≡ true
  few : length words ≤ length slots

are_words : (slots : List Slot) (values : Values slots) → ValuesFit slots values → AreWords slots (values_words slots values)
are_words [] values fit = record { plain = refl; few = omega arith }
are_words (Slot.Must k ∷ slots) values fit =
    let others = are_words slots values.1 fit.1 in
    record { plain = rw (field_is_word k values.0 fit.0) others.plain; few = omega (arith, others.few) }
are_words (Slot.May o ∷ slots) values fit =
    let first = option_is_word o values.0 fit.0 in
    let others = are_words slots values.1 fit.1 in
    record {
      plain = rw (list_all-append is_word (option_words o values.0) (values_words slots values.1)) (rw first.plain others.plain);
      few = omega (arith, length-append (option_words o values.0) (values_words slots values.1), first.few, others.few);
    }

keyword_is_word : (f : Keyword) → is_word (keyword_word f) ≡ true
keyword_is_word keyword.Open = refl
keyword_is_word _ = refl

few_slots : (f : Keyword) → nat_le (length (slots f)) 5 ≡ true
few_slots keyword.Open = refl
few_slots _ = refl

at_most : (m n : ℕ) → nat_le m n ≡ true → m ≤ n
at_most m n is = grind (arith, nat_tests)

short_line : (n : ℕ) → n ≤ LINE_LIMIT → nat_lt LINE_LIMIT n ≡ false
short_line n short = grind (arith, nat_tests)

-- all are words, and six at the most
record AreFew (words : List (List ℕ)) : Type 0 where
  plain : list_all is_word words ≡ true
  few : length words ≤ 6

row_is_few : (r : Row) → RowFits r → AreFew (row_words r)
row_is_few (row f values) fit =
    let others = are_words (slots f) values fit in
    record { plain = rw (keyword_is_word f) others.plain; few = omega (arith, others.few, at_most (length (slots f)) 5 (few_slots f)) }

pub line_says_the_command : LineSaysTheCommand
unfolding line_said words_of HasWords
line_says_the_command c fits =
    let are = row_is_few (row_of c) fits.0 in
    let short = short_line (length (spelled c)) (omega (arith, length_of_joined (words_of c) are.plain, are.few)) in
    rw short (rw (fields_of_joined (words_of c) are.plain) (words_say_the_command c fits))
