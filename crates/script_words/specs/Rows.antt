-- What the fields of forms say, kind by kind: how each is read, and how it is spelled.
use Rattle.std.specs.Prelude.{[], ℕ, ◌++◌, ◌<◌, ◌^◌, ◌∷◌, Bool, List, None, Option, Some, codes, false, true}
use Rattle.scope_rules.specs.declared.types.joiners.Policy.TheVariants.{All}
use Rattle.script_words.specs.Terms.{Any, AwaitAll, AwaitOk, Expiry, FailuresAtLeast, FieldKind, Name, Num, OpenWord, Policy, Slot, SuccessesAtLeast, SumAtLeast, Text, Until, Value, decimal, mag, signed_decimal, text_of, value_text}
use Rattle.script_words.specs.{Joiners.policy_said, Numbers.moment_said, Numbers.small_said, Openings.due_said, Openings.flag_said, Words.name_said, Words.new_deadline_said, Words.value_said}
use Rattle.scope_rules.specs.declared.types.events.Expiry.TheVariants as expiry

-- ---- what a field says that must be there

abbrev pub Said : FieldKind → Type 0
Said FieldKind.Deadline = Option ℕ
Said FieldKind.Name = Name
Said FieldKind.Value = Value
Said _ = ℕ

abbrev pub field_said : (k : FieldKind) → List ℕ → Option (Said k)
field_said FieldKind.Moment = moment_said
field_said FieldKind.Deadline = new_deadline_said
field_said FieldKind.Name = name_said
field_said FieldKind.Value = value_said
field_said _ = small_said

abbrev pub new_deadline_word : Option ℕ → List ℕ
new_deadline_word None = codes "never"
new_deadline_word (Some moment) = decimal moment

abbrev pub field_word : (k : FieldKind) → Said k → List ℕ
field_word FieldKind.Deadline deadline = new_deadline_word deadline
field_word FieldKind.Name name = text_of name
field_word FieldKind.Value value = value_text value
field_word _ number = decimal number

-- the number of a scope, a task or an actor, or a count
abbrev pub IsSmall : ℕ → Type 0
IsSmall n = n < 2 ^ 32

-- a moment, if there is one
abbrev pub IsMoment : Option ℕ → Type 0
IsMoment None = Unit {0}
IsMoment (Some moment) = moment < 2 ^ 64

abbrev pub IsValue : Value → Type 0
IsValue (Num number) = mag number < 2 ^ 63
IsValue (Text name) = Unit {0}

abbrev pub FieldFits : (k : FieldKind) → Said k → Type 0
FieldFits FieldKind.Moment moment = moment < 2 ^ 64
FieldFits FieldKind.Deadline deadline = IsMoment deadline
FieldFits FieldKind.Name name = Unit {0}
FieldFits FieldKind.Value value = IsValue value
FieldFits _ number = IsSmall number

-- ---- what a word of an open says, and what holds without it

abbrev pub Chosen : OpenWord → Type 0
Chosen OpenWord.Joiner = Policy
Chosen OpenWord.Deadline = Option ℕ
Chosen OpenWord.MoveOn = Expiry
Chosen OpenWord.Shield = Bool

abbrev pub option_said : (o : OpenWord) → List ℕ → Option (Chosen o)
option_said OpenWord.Joiner = policy_said
option_said OpenWord.Deadline = due_said
option_said OpenWord.MoveOn = flag_said (codes "move-on") expiry.MoveOn
option_said OpenWord.Shield = flag_said (codes "shield") true

abbrev pub left_out : (o : OpenWord) → Chosen o
left_out OpenWord.Joiner = AwaitOk
left_out OpenWord.Deadline = None
left_out OpenWord.MoveOn = expiry.Fail
left_out OpenWord.Shield = false

abbrev pub policy_word : Policy → List ℕ
policy_word All = codes "all"
policy_word Any = codes "any"
policy_word AwaitAll = codes "await"
policy_word AwaitOk = codes "await-ok"
policy_word (Until (FailuresAtLeast count)) = codes "until:fail:" ++ decimal count
policy_word (Until (SuccessesAtLeast count)) = codes "until:ok:" ++ decimal count
policy_word (Until (SumAtLeast sum)) = codes "until:sum:" ++ signed_decimal sum

-- a joiner is always spelled, the others only if they say more than what holds without them
abbrev pub option_words : (o : OpenWord) → Chosen o → List (List ℕ)
option_words OpenWord.Joiner policy = policy_word policy ∷ []
option_words OpenWord.Deadline None = []
option_words OpenWord.Deadline (Some moment) = (codes "deadline=" ++ decimal moment) ∷ []
option_words OpenWord.MoveOn expiry.Fail = []
option_words OpenWord.MoveOn expiry.MoveOn = codes "move-on" ∷ []
option_words OpenWord.Shield false = []
option_words OpenWord.Shield true = codes "shield" ∷ []

abbrev pub IsPolicy : Policy → Type 0
IsPolicy (Until (FailuresAtLeast count)) = IsSmall count
IsPolicy (Until (SuccessesAtLeast count)) = IsSmall count
IsPolicy (Until (SumAtLeast sum)) = mag sum < 2 ^ 63
IsPolicy _ = Unit {0}

abbrev pub OptionFits : (o : OpenWord) → Chosen o → Type 0
OptionFits OpenWord.Joiner policy = IsPolicy policy
OptionFits OpenWord.Deadline deadline = IsMoment deadline
OptionFits _ _ = Unit {0}

-- ---- what a form's fields say

abbrev pub OfSlot : Slot → Type 0
OfSlot (Slot.Must k) = Said k
OfSlot (Slot.May o) = Chosen o

abbrev pub Values : List Slot → Type 0
Values [] = Unit {0}
Values (slot ∷ slots) = OfSlot slot × Values slots

abbrev pub values_words : (slots : List Slot) → Values slots → List (List ℕ)
values_words [] values = []
values_words (Slot.Must k ∷ slots) values = field_word k values.0 ∷ values_words slots values.1
values_words (Slot.May o ∷ slots) values = option_words o values.0 ++ values_words slots values.1

abbrev pub ValuesFit : (slots : List Slot) → Values slots → Type 0
ValuesFit [] values = Unit {0}
ValuesFit (Slot.Must k ∷ slots) values = FieldFits k values.0 × ValuesFit slots values.1
ValuesFit (Slot.May o ∷ slots) values = OptionFits o values.0 × ValuesFit slots values.1
