-- The words of a command say that command.
use Rattle.std.proofs.Common.{[], ℕ, ◌==◌, ◌∙◌, ◌∷◌, ◌≡◌, Bool, Err, List, None, Ok, Option, Some, ap, arith, codes, false, refl, true}
use Rattle.script_words.specs.{Command, Expiry, FieldFits, FieldKind, HasWords, IsMoment, IsPolicy, Keyword, Maker, Policy, Row, RowFits, Said, Slot, Values, ValuesFit, WordsSayTheCommand, Form, after, bytes_eq, command_said, decimal}
use Rattle.script_words.specs.{field_said, field_word, fields_said, first_said, form, form_of, form_said, is_ascii_digit, just_one, keyword_said, list_all, made, made_by, made_in, made_of, may_follow, new_deadline_said, new_deadline_word}
use Rattle.script_words.specs.{next_said, row, row_made, row_of, row_words, said_in, slots, slots_in, values_words, keyword_word, words_of}
use Rattle.script_words.specs.Lines.{begins_comment, line_of}
use Rattle.script_words.proofs.Lemmas.{digits_decimal, nat_tests}
use Rattle.script_words.proofs.{Numerals.by_digits, SpelledWords.moment_read, SpelledWords.name_read, SpelledWords.policy_read, SpelledWords.small_read, SpelledWords.value_read}
use Rattle.scope_rules.specs.declared.types.events.Expiry.TheVariants as expiry
use Rattle.scope_rules.specs.declared.types.events.Event.TheVariants as event
use Rattle.script_words.specs.declared.commands.Query.TheVariants as query
use Rattle.script_words.specs.declared.commands.Command.TheVariants as command
use Rattle.script_words.specs.declared.commands.Line.TheVariants as line
use Rattle.script_words.specs.declared.keywords.Keyword.TheVariants as keyword

-- ---- a field

-- a number does not begin as `never` does
digits_not_never : (word : List ℕ) → list_all is_ascii_digit word ≡ true → bytes_eq word (codes "never") ≡ false
digits_not_never [] digits = refl
digits_not_never (b ∷ bs) digits =
    let other : (b == 110) ≡ false = grind (arith, nat_tests) in
    rw other refl

new_deadline_read : (deadline : Option ℕ) → IsMoment deadline → new_deadline_said (new_deadline_word deadline) ≡ Some deadline
unfolding new_deadline_said
new_deadline_read None fits = refl
new_deadline_read (Some moment) fits =
    let other : bytes_eq (decimal moment) (codes "never") ≡ false = digits_not_never (decimal moment) (digits_decimal by_digits moment fits) in
    let read = moment_read moment fits in
    rw other (rw read refl)

field_read : (k : FieldKind) (said : Said k) → FieldFits k said → field_said k (field_word k said) ≡ Some said
field_read FieldKind.Deadline deadline fits = new_deadline_read deadline fits
field_read FieldKind.Name name fits = name_read name
field_read FieldKind.Value value fits = value_read value fits
field_read FieldKind.Moment moment fits = moment_read moment fits
field_read _ number fits = small_read number fits

-- ---- fields in their turn

-- that the words from the first one on that may be left out are read
abbrev pub OthersRead : (slots : List Slot) → Maker slots → Values slots → Type 0
OthersRead [] made values = Unit {0}
OthersRead (Slot.Must k ∷ slots) made values = OthersRead slots (made values.0) values.1
OthersRead (Slot.May o ∷ slots) made values = made_of (Slot.May o ∷ slots) made (values_words (Slot.May o ∷ slots) values) ≡ Some (made_by (Slot.May o ∷ slots) made values)

fields_read : (slots : List Slot) (made : Maker slots) (values : Values slots) → ValuesFit slots values → OthersRead slots made values → made_of slots made (values_words slots values) ≡ Some (made_by slots made values)
unfolding first_said just_one
fields_read [] made values fit others = refl
fields_read (Slot.Must k ∷ []) made values fit others = rw (field_read k values.0 fit.0) refl
fields_read (Slot.Must k ∷ slot ∷ slots) made values fit others = rw (field_read k values.0 fit.0) (fields_read (slot ∷ slots) (made values.0) values.1 fit.1 others)
fields_read (Slot.May o ∷ slots) made values fit others = others

-- what may follow the actor of an `open`
options_read : (actor : ℕ) (policy : Policy) (deadline : Option ℕ) (moving : Expiry) (shield : Bool) → IsPolicy policy → IsMoment deadline
    → made_of may_follow (made keyword.Open actor) (values_words may_follow (policy, (deadline, (moving, (shield, tt))))) ≡ Some (made_by may_follow (made keyword.Open actor) (policy, (deadline, (moving, (shield, tt)))))
unfolding next_said after
options_read actor policy None expiry.Fail false fits moment = rw (policy_read policy fits) refl
options_read actor policy None expiry.Fail true fits moment = rw (policy_read policy fits) refl
options_read actor policy None expiry.MoveOn false fits moment = rw (policy_read policy fits) refl
options_read actor policy None expiry.MoveOn true fits moment = rw (policy_read policy fits) refl
options_read actor policy (Some n) expiry.Fail false fits moment = rw (policy_read policy fits) (rw (moment_read n moment) refl)
options_read actor policy (Some n) expiry.Fail true fits moment = rw (policy_read policy fits) (rw (moment_read n moment) refl)
options_read actor policy (Some n) expiry.MoveOn false fits moment = rw (policy_read policy fits) (rw (moment_read n moment) refl)
options_read actor policy (Some n) expiry.MoveOn true fits moment = rw (policy_read policy fits) (rw (moment_read n moment) refl)

abbrev OthersOf : Row → Type 0
OthersOf (row f values) = OthersRead (slots f) (made f) values

others_read : (c : Command) → RowFits (row_of c) → OthersOf (row_of c)
others_read (command.Do (event.Open actor policy options)) fit = options_read actor policy options.deadline options.expiry options.shield fit.1.0 fit.1.1.0
others_read (command.Do (event.Finish task (Ok value))) fit = tt
others_read (command.Do (event.Finish task (Err fault))) fit = tt
others_read (command.Ask (query.Get actor key)) fit = tt
others_read _ fit = tt

-- ---- forms

no_comment : (f : Keyword) → begins_comment (keyword_word f) ≡ false
no_comment keyword.Open = refl
no_comment _ = refl

keyword_read : (f : Keyword) → keyword_said (keyword_word f) ≡ Some f
unfolding keyword_said
keyword_read keyword.Open = refl
keyword_read _ = refl

by_fields : (f : Form) (args : List (List ℕ)) → said_in f args ≡ made_of (slots_in f) (made_in f) args
by_fields (form word slots made) args = refl

pub said_by_fields : (f : Keyword) (args : List (List ℕ)) → form_said f args ≡ made_of (slots f) (made f) args
unfolding form_said
said_by_fields f args = by_fields (form_of f) args

row_says : (r : Row) → RowFits r → OthersOf r → fields_said (row_words r) ≡ line.Command (row_made r)
unfolding fields_said command_said
row_says (row f values) fit others =
    let said = said_by_fields f (values_words (slots f) values) ∙ fields_read (slots f) (made f) values fit others in
    rw (no_comment f) (rw (keyword_read f) (ap line_of said))

pub words_say_the_command : WordsSayTheCommand
unfolding words_of HasWords
words_say_the_command c fits = row_says (row_of c) fits.0 (others_read c fits.0) ∙ ap line.Command fits.1
