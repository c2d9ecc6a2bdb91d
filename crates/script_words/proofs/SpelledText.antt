-- The line of each command is printable.
use Rattle.std.proofs.Common.{[], ℕ, ◌++◌, ◌∷◌, List, None, Some, false, refl, true}
use Rattle.script_words.specs.{Chosen, Command, FailuresAtLeast, FieldKind, Keyword, OpenWord, Policy, Row, Said, Slot, SuccessesAtLeast, SumAtLeast, Until, Values, field_word, join_with_byte, keyword_word, option_words, policy_word, row, row_of, row_words}
use Rattle.script_words.specs.{slots, spelled, values_words, words_of}
use Rattle.script_words.proofs.PrintableText.{Shows, both, decimal_shows, name_shows, signed_shows, value_shows}
use Rattle.scope_rules.specs.declared.types.events.Expiry.TheVariants as expiry
use Rattle.script_words.specs.declared.keywords.Keyword.TheVariants as keyword

abbrev EachShows : List (List ℕ) → Type 0
EachShows [] = Unit {0}
EachShows (word ∷ words) = Shows word × EachShows words

joined_shows : (words : List (List ℕ)) → EachShows words → Shows (join_with_byte 32 words)
joined_shows [] show = refl
joined_shows (word ∷ []) show = show.0
joined_shows (word ∷ second ∷ words) show = both word (32 ∷ join_with_byte 32 (second ∷ words)) show.0 (joined_shows (second ∷ words) show.1)

field_shows : (k : FieldKind) (said : Said k) → Shows (field_word k said)
field_shows FieldKind.Deadline None = refl
field_shows FieldKind.Deadline (Some moment) = decimal_shows moment
field_shows FieldKind.Name name = name_shows name
field_shows FieldKind.Value value = value_shows value
field_shows _ number = decimal_shows number

policy_shows : (policy : Policy) → Shows (policy_word policy)
policy_shows (Until (FailuresAtLeast count)) = simp (decimal_shows)
policy_shows (Until (SuccessesAtLeast count)) = simp (decimal_shows)
policy_shows (Until (SumAtLeast sum)) = simp (signed_shows)
policy_shows _ = refl

option_shows : (o : OpenWord) (chosen : Chosen o) (words : List (List ℕ)) → EachShows words → EachShows (option_words o chosen ++ words)
option_shows OpenWord.Joiner policy words show = (policy_shows policy, show)
option_shows OpenWord.Deadline None words show = show
option_shows OpenWord.Deadline (Some moment) words show = (simp (decimal_shows), show)
option_shows OpenWord.MoveOn expiry.Fail words show = show
option_shows OpenWord.MoveOn expiry.MoveOn words show = (refl, show)
option_shows OpenWord.Shield false words show = show
option_shows OpenWord.Shield true words show = (refl, show)

fields_show : (slots : List Slot) (values : Values slots) → EachShows (values_words slots values)
fields_show [] values = tt
fields_show (Slot.Must k ∷ slots) values = (field_shows k values.0, fields_show slots values.1)
fields_show (Slot.May o ∷ slots) values = option_shows o values.0 (values_words slots values.1) (fields_show slots values.1)

keyword_shows : (f : Keyword) → Shows (keyword_word f)
keyword_shows keyword.Open = refl
keyword_shows _ = refl

row_shows : (r : Row) → EachShows (row_words r)
row_shows (row f values) = (keyword_shows f, fields_show (slots f) values)

pub spelled_shows : (c : Command) → Shows (spelled c)
unfolding words_of
spelled_shows c = joined_shows (words_of c) (row_shows (row_of c))
