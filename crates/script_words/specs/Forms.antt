-- The table of forms: the word that each begins with, its fields, and the command that they make.
use Rattle.std.specs.Prelude.{[], ℕ, ◌∷◌, Err, List, None, Ok, Option, Some, codes, if◌then◌else◌, map, option_map}
use Rattle.script_words.specs.Terms.{Command, EndValue, FieldKind, Keyword, Label, Name, OpenWord, Slot, bytes_eq}
use Rattle.script_words.specs.{Steps.◌>>=◌, Fields.is_empty, Fields.just_one, Numbers.first_said, Openings.next_said, Rows.OfSlot, Rows.field_said, Rows.left_out, Rows.option_said}
use Rattle.scope_rules.specs.declared.types.events.Event.TheVariants as event
use Rattle.script_words.specs.declared.commands.Query.TheVariants as query
use Rattle.script_words.specs.declared.commands.Command.TheVariants as command
use Rattle.script_words.specs.declared.keywords.Keyword.TheVariants as keyword
use Rattle.script_words.specs.declared.rows.FieldKind.TheVariants as kind

-- a command is made of what fields say
abbrev pub Maker : List Slot → Type 0
Maker [] = Command
Maker (slot ∷ slots) = OfSlot slot → Maker slots

-- the word that a form begins with, its fields, and the command that they make
pub data Form : Type 0 where
  form : (word : List ℕ) (slots : List Slot) (made : Maker slots) → Form

abbrev pub word_in : Form → List ℕ
word_in (form word slots made) = word

abbrev pub slots_in : Form → List Slot
slots_in (form word slots made) = slots

abbrev pub made_in : (f : Form) → Maker (slots_in f)
made_in (form word slots made) = made

-- fields that must be there
abbrev pub musts : List FieldKind → List Slot
musts [] = []
musts (k ∷ ks) = Slot.Must k ∷ musts ks

abbrev pub plain : List ℕ → (ks : List FieldKind) → Maker (musts ks) → Form
plain word ks made = form word (musts ks) made

abbrev pub may_follow : List Slot
may_follow = Slot.May OpenWord.Joiner ∷ Slot.May OpenWord.Deadline ∷ Slot.May OpenWord.MoveOn ∷ Slot.May OpenWord.Shield ∷ []

-- a label with no end that is expected
abbrev pub label_of : Name → Label
label_of name = record { name = name; due = None }

-- the end of a task that failed so
abbrev pub failed : Name → EndValue
failed name = Err (record { 0 = name })

-- a row for each form
abbrev pub form_of : Keyword → Form
form_of keyword.Open = form (codes "open") (Slot.Must kind.Actor ∷ may_follow) (λ actor policy deadline expiry shield. command.Do (event.Open actor policy (record { deadline = deadline; shield = shield; expiry = expiry })))
form_of keyword.Fork = plain (codes "fork") (kind.Actor ∷ kind.Scope ∷ kind.Name ∷ []) (λ actor scope name. command.Do (event.Fork actor scope (label_of name)))
form_of keyword.Reject = plain (codes "reject") (kind.Task ∷ []) (λ task. command.Do (event.Reject task))
form_of keyword.Start = plain (codes "start") (kind.Task ∷ []) (λ task. command.Do (event.Start task))
form_of keyword.Succeed = plain (codes "ok") (kind.Task ∷ kind.Value ∷ []) (λ task value. command.Do (event.Finish task (Ok value)))
form_of keyword.Fail = plain (codes "fail") (kind.Task ∷ kind.Name ∷ []) (λ task name. command.Do (event.Finish task (failed name)))
form_of keyword.Cancel = plain (codes "cancel") (kind.Scope ∷ []) (λ scope. command.Do (event.Cancel scope))
form_of keyword.Move = plain (codes "move") (kind.Scope ∷ kind.Deadline ∷ []) (λ scope deadline. command.Do (event.Move scope deadline))
form_of keyword.Tick = plain (codes "tick") (kind.Moment ∷ []) (λ now. command.Do (event.Tick now))
form_of keyword.Bind = plain (codes "bind") (kind.Actor ∷ kind.Name ∷ kind.Value ∷ []) (λ actor key value. command.Do (event.Bind actor (record { key = key; value = value })))
form_of keyword.Unbind = plain (codes "unbind") (kind.Actor ∷ []) (λ actor. command.Do (event.Unbind actor))
form_of keyword.Join = plain (codes "join") (kind.Actor ∷ kind.Scope ∷ []) (λ actor scope. command.Do (event.Join actor scope))
form_of keyword.Close = plain (codes "close") (kind.Actor ∷ kind.Scope ∷ []) (λ actor scope. command.Do (event.BeginClose actor scope))
form_of keyword.Closed = plain (codes "closed") (kind.Actor ∷ kind.Scope ∷ []) (λ actor scope. command.Do (event.EndClose actor scope))
form_of keyword.Retire = plain (codes "retire") (kind.Actor ∷ []) (λ actor. command.Retire actor)
form_of keyword.State = plain (codes "state") (kind.Task ∷ []) (λ task. command.Ask (query.State task))
form_of keyword.Stage = plain (codes "stage") (kind.Task ∷ []) (λ task. command.Ask (query.Stage task))
form_of keyword.ResultOf = plain (codes "result") (kind.Actor ∷ kind.Task ∷ []) (λ actor task. command.Ask (query.Result actor task))
form_of keyword.FaultOf = plain (codes "fault") (kind.Actor ∷ kind.Task ∷ []) (λ actor task. command.Ask (query.Fault actor task))
form_of keyword.Cause = plain (codes "cause") (kind.Scope ∷ []) (λ scope. command.Ask (query.Cause scope))
form_of keyword.Until = plain (codes "until") (kind.Scope ∷ []) (λ scope. command.Ask (query.Until scope))
form_of keyword.Counts = plain (codes "counts") (kind.Scope ∷ []) (λ scope. command.Ask (query.Counts scope))
form_of keyword.Get = plain (codes "get") (kind.Actor ∷ kind.Name ∷ []) (λ actor key. command.Ask (query.Get actor key))

-- the word that the form begins with, its fields behind that word, and the command that they make
abbrev pub keyword_word : Keyword → List ℕ
keyword_word f = word_in (form_of f)

abbrev pub slots : Keyword → List Slot
slots f = slots_in (form_of f)

abbrev pub made : (f : Keyword) → Maker (slots f)
made f = made_in (form_of f)

-- ---- reading

-- the keywords, those with short words first, and of one length those that scripts have most often
abbrev pub keywords : List Keyword
keywords =
    keyword.Succeed ∷ keyword.Get ∷ keyword.Fork ∷ keyword.Tick ∷ keyword.Open ∷ keyword.Join ∷ keyword.Bind ∷ keyword.Fail ∷ keyword.Move
    ∷ keyword.Start ∷ keyword.State ∷ keyword.Cause ∷ keyword.Close ∷ keyword.Stage ∷ keyword.FaultOf ∷ keyword.Until
    ∷ keyword.Counts ∷ keyword.Closed ∷ keyword.Cancel ∷ keyword.ResultOf ∷ keyword.Unbind ∷ keyword.Reject ∷ keyword.Retire ∷ []

abbrev pub worded : List (List ℕ × Keyword)
worded = map (λ k. (keyword_word k, k)) keywords

-- the keyword that a table has beside the word, in its first row with that word
abbrev pub keyword_beside : List (List ℕ × Keyword) → List ℕ → Option Keyword
keyword_beside [] word = None
keyword_beside (row ∷ rows) word = if bytes_eq word row.0 then Some row.1 else keyword_beside rows word

-- the keyword that the word is
unfoldable pub keyword_said : List ℕ → Option Keyword
keyword_said word = keyword_beside worded word

-- the command that the words make, a field after the other, and no more
abbrev pub made_of : (slots : List Slot) → Maker slots → List (List ℕ) → Option Command
made_of [] made words = if is_empty words then Some made else None
made_of (Slot.Must k ∷ []) made words = option_map made (just_one words >>= field_said k)
made_of (Slot.Must k ∷ slot ∷ slots) made words = first_said (field_said k) words >>= (λ found. made_of (slot ∷ slots) (made found.0) found.1)
made_of (Slot.May o ∷ slots) made words =
    let found = next_said (left_out o) (option_said o) words in
    made_of slots (made found.0) found.1

abbrev pub said_in : Form → List (List ℕ) → Option Command
said_in (form word slots made) words = made_of slots made words

-- the command with this keyword and these arguments
unfoldable pub form_said : Keyword → List (List ℕ) → Option Command
form_said f args = said_in (form_of f) args
