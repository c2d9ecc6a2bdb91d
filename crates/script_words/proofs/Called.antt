-- A form calls its fields what its command takes them for.
use Rattle.std.proofs.Common.{[], ℕ, ◌∙◌, ◌∷◌, ◌≡◌, List, None, Option, Some, option_map, refl, rules, subst, sym}
use Rattle.script_words.specs.{◌>>=◌, AreCalled, Command, FieldKind, FieldsAreCalled, IsCalled, Keyword, Maker, OfSlot, Said, Slot, field_said, first_said, in_command, just_one, left_out, made, made_of, next_said, option_said, slots}
use Rattle.script_words.proofs.SpelledCommands.{said_by_fields}
use Rattle.script_words.specs.declared.keywords.Keyword.TheVariants as keyword
use Rattle.script_words.specs.declared.rows.FieldKind.TheVariants as kind

-- what a field says, with those behind it
abbrev behind : {A : Type 0} → List (List ℕ) → Option A → Option (A × List (List ℕ))
behind words o = option_map (λ x. (x, words)) o

-- whatever is made has P
abbrev Always : (ks : List Slot) → Maker ks → (Command → Type 0) → Type 0
Always [] made P = P made
Always (slot ∷ ks) made P = (x : OfSlot slot) → Always ks (made x) P

abbrev IsTaken : (k : FieldKind) → Said k → Command → Type 0
IsTaken kind.Actor n c = Some n ≡ in_command kind.Actor c
IsTaken kind.Scope n c = Some n ≡ in_command kind.Scope c
IsTaken kind.Task n c = Some n ≡ in_command kind.Task c
IsTaken _ said c = Unit {0}

-- what each field says is the command's
abbrev AreTaken : (ks : List Slot) → Maker ks → Type 0
AreTaken [] made = Unit {0}
AreTaken (Slot.Must k ∷ ks) made = (said : Said k) → Always ks (made said) (IsTaken k said) × AreTaken ks (made said)
AreTaken (Slot.May w ∷ ks) made = (chosen : OfSlot (Slot.May w)) → AreTaken ks (made chosen)

all_taken : (f : Keyword) → AreTaken (slots f) (made f)
all_taken keyword.Open = search rules
all_taken _ = search rules

command_is : (c d : Command) → Some c ≡ Some d → c ≡ d
command_is c d e = cc

then_is : {A B : Type 0} (o : Option A) (next : A → Option B) (y : B) → (o >>= next) ≡ Some y → (x : A) × (o ≡ Some x) × (next x ≡ Some y)
then_is None next y is = absurd cc
then_is (Some x) next y is = (x, refl, is)

always_made : (ks : List Slot) (made : Maker ks) (P : Command → Type 0) (words : List (List ℕ)) (c : Command) → Always ks made P → made_of ks made words ≡ Some c → P c
unfolding first_said
always_made [] made P [] c all is = subst P (command_is made c is) all
always_made [] made P (word ∷ words) c all is = absurd cc
always_made (Slot.Must k ∷ []) made P words c all is = by (just_one words >>= field_said k) is
  where
    by : (o : Option (Said k)) → option_map made o ≡ Some c → P c
    by None is = absurd cc
    by (Some x) is = subst P (command_is (made x) c is) (all x)
always_made (Slot.Must k ∷ slot ∷ ks) made P words c all is =
    let it = then_is (first_said (field_said k) words) (λ found. made_of (slot ∷ ks) (made found.0) found.1) c is in
    always_made (slot ∷ ks) (made it.0.0) P it.0.1 c (all it.0.0) it.2
always_made (Slot.May w ∷ ks) made P words c all is =
    let found = next_said (left_out w) (option_said w) words in
    always_made ks (made found.0) P found.1 c (all found.0) is

is_called : (k : FieldKind) (word : List ℕ) (said : Said k) (c : Command) → field_said k word ≡ Some said → IsTaken k said c → IsCalled k word c
is_called kind.Actor word n c so is = so ∙ is
is_called kind.Scope word n c so is = so ∙ is
is_called kind.Task word n c so is = so ∙ is
is_called _ word said c so is = tt

called : (ks : List Slot) (made : Maker ks) (words : List (List ℕ)) (c : Command) → AreTaken ks made → made_of ks made words ≡ Some c → AreCalled ks words c
unfolding first_said just_one
called [] made words c taken is = tt
called (Slot.Must k ∷ []) made [] c taken is = absurd cc
called (Slot.Must k ∷ []) made (word ∷ []) c taken is = by (field_said k word) refl is
  where
    by : (o : Option (Said k)) → field_said k word ≡ o → option_map made o ≡ Some c → AreCalled (Slot.Must k ∷ []) (word ∷ []) c
    by None so is = absurd cc
    by (Some x) so is = (is_called k word x c so (subst (IsTaken k x) (command_is (made x) c is) (taken x).0), tt)
called (Slot.Must k ∷ []) made (word ∷ other ∷ words) c taken is = absurd cc
called (Slot.Must k ∷ slot ∷ ks) made [] c taken is = absurd cc
called (Slot.Must k ∷ slot ∷ ks) made (word ∷ words) c taken is = by (field_said k word) refl is (λ x. called (slot ∷ ks) (made x) words c (taken x).1)
  where
    by : (o : Option (Said k)) → field_said k word ≡ o → (behind words o >>= (λ found. made_of (slot ∷ ks) (made found.0) found.1)) ≡ Some c
        → ((x : Said k) → made_of (slot ∷ ks) (made x) words ≡ Some c → AreCalled (slot ∷ ks) words c) → AreCalled (Slot.Must k ∷ slot ∷ ks) (word ∷ words) c
    by None so is others = absurd cc
    by (Some x) so is others = (is_called k word x c so (always_made (slot ∷ ks) (made x) (IsTaken k x) words c (taken x).0 is), others x is)
called (Slot.May w ∷ ks) made words c taken is =
    let found = next_said (left_out w) (option_said w) words in
    called ks (made found.0) found.1 c (taken found.0) is

pub fields_are_called : FieldsAreCalled
fields_are_called f args c is = called (slots f) (made f) args c (all_taken f) (sym (said_by_fields f args) ∙ is)
