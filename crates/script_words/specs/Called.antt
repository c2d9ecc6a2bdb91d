-- That a form calls its fields what its command takes them for.
use Rattle.std.specs.Prelude.{[], ℕ, ◌∷◌, ◌≡◌, List, None, Option, Some}
use Rattle.script_words.specs.Terms.{Command, Event, FieldKind, Keyword, Query, Slot}
use Rattle.script_words.specs.{Forms.form_said, Forms.slots, Numbers.small_said, Openings.next_said, Rows.left_out, Rows.option_said}
use Rattle.scope_rules.specs.declared.types.events.Event.TheVariants as event
use Rattle.script_words.specs.declared.commands.Query.TheVariants as query
use Rattle.script_words.specs.declared.commands.Command.TheVariants as command
use Rattle.script_words.specs.declared.rows.FieldKind.TheVariants as kind

-- the actor, the scope or the task that the event names, by the kind of its field
abbrev pub in_event : FieldKind → Event → Option ℕ
in_event kind.Actor (event.Open actor policy options) = Some actor
in_event kind.Actor (event.Fork actor scope label) = Some actor
in_event kind.Actor (event.Join actor scope) = Some actor
in_event kind.Actor (event.BeginClose actor scope) = Some actor
in_event kind.Actor (event.EndClose actor scope) = Some actor
in_event kind.Actor (event.Bind actor binding) = Some actor
in_event kind.Actor (event.Unbind actor) = Some actor
in_event kind.Scope (event.Fork actor scope label) = Some scope
in_event kind.Scope (event.Join actor scope) = Some scope
in_event kind.Scope (event.BeginClose actor scope) = Some scope
in_event kind.Scope (event.EndClose actor scope) = Some scope
in_event kind.Scope (event.Cancel scope) = Some scope
in_event kind.Scope (event.Move scope deadline) = Some scope
in_event kind.Task (event.Start task) = Some task
in_event kind.Task (event.Reject task) = Some task
in_event kind.Task (event.Finish task end) = Some task
in_event _ _ = None

-- the same of a query
abbrev pub in_query : FieldKind → Query → Option ℕ
in_query kind.Actor (query.Result actor task) = Some actor
in_query kind.Actor (query.Fault actor task) = Some actor
in_query kind.Actor (query.Get actor key) = Some actor
in_query kind.Scope (query.Cause scope) = Some scope
in_query kind.Scope (query.Until scope) = Some scope
in_query kind.Scope (query.Counts scope) = Some scope
in_query kind.Task (query.State task) = Some task
in_query kind.Task (query.Stage task) = Some task
in_query kind.Task (query.Result actor task) = Some task
in_query kind.Task (query.Fault actor task) = Some task
in_query _ _ = None

-- and of a command
abbrev pub in_command : FieldKind → Command → Option ℕ
in_command k (command.Do e) = in_event k e
in_command kind.Actor (command.Retire actor) = Some actor
in_command _ (command.Retire actor) = None
in_command k (command.Ask q) = in_query k q

-- the word, which is called this, is what the command takes for it
abbrev pub IsCalled : FieldKind → List ℕ → Command → Type 0
IsCalled kind.Actor word c = small_said word ≡ in_command kind.Actor c
IsCalled kind.Scope word c = small_said word ≡ in_command kind.Scope c
IsCalled kind.Task word c = small_said word ≡ in_command kind.Task c
IsCalled _ word c = Unit {0}

-- there is a word for each field that a form must have
abbrev pub AreCalled : List Slot → List (List ℕ) → Command → Type 0
AreCalled [] words c = Unit {0}
AreCalled (Slot.Must k ∷ ks) [] c = ⊥
AreCalled (Slot.Must k ∷ ks) (word ∷ words) c = IsCalled k word c × AreCalled ks words c
AreCalled (Slot.May o ∷ ks) words c = AreCalled ks (next_said (left_out o) (option_said o) words).1 c

-- a field that a form calls an actor, a scope or a task is the command's actor, scope or task
abbrev pub FieldsAreCalled : Type 0
FieldsAreCalled = (f : Keyword) (args : List (List ℕ)) (c : Command) → form_said f args ≡ Some c → AreCalled (slots f) args c
