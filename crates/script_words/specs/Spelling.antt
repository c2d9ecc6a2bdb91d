-- Each command as the words of a line.
use Rattle.std.specs.Prelude.{[], ℕ, ◌∷◌, ◌≡◌, Err, List, Ok}
use Rattle.script_words.specs.Terms.{Command, Keyword, Slot, join_with_byte}
use Rattle.script_words.specs.{Forms.Maker, Forms.made, Forms.slots, Forms.keyword_word, Lines.fields_said, Lines.line_said, Rows.Values, Rows.ValuesFit, Rows.values_words}
use Rattle.scope_rules.specs.declared.types.events.Event.TheVariants as event
use Rattle.script_words.specs.declared.commands.Query.TheVariants as query
use Rattle.script_words.specs.declared.commands.Command.TheVariants as command
use Rattle.script_words.specs.declared.commands.Line.TheVariants as line
use Rattle.script_words.specs.declared.keywords.Keyword.TheVariants as keyword

-- a form, and what its fields say
pub data Row : Type 0 where
  row : (keyword : Keyword) (values : Values (slots keyword)) → Row

-- the form of a command, and what its fields say
abbrev pub row_of : Command → Row
row_of (command.Do (event.Open actor policy options)) = row keyword.Open (actor, (policy, (options.deadline, (options.expiry, (options.shield, tt)))))
row_of (command.Do (event.Fork actor scope label)) = row keyword.Fork (actor, (scope, (label.name, tt)))
row_of (command.Do (event.Reject task)) = row keyword.Reject (task, tt)
row_of (command.Do (event.Start task)) = row keyword.Start (task, tt)
row_of (command.Do (event.Finish task (Ok value))) = row keyword.Succeed (task, (value, tt))
row_of (command.Do (event.Finish task (Err fault))) = row keyword.Fail (task, (fault.0, tt))
row_of (command.Do (event.Cancel scope)) = row keyword.Cancel (scope, tt)
row_of (command.Do (event.Move scope deadline)) = row keyword.Move (scope, (deadline, tt))
row_of (command.Do (event.Tick now)) = row keyword.Tick (now, tt)
row_of (command.Do (event.Bind actor binding)) = row keyword.Bind (actor, (binding.key, (binding.value, tt)))
row_of (command.Do (event.Unbind actor)) = row keyword.Unbind (actor, tt)
row_of (command.Do (event.Join actor scope)) = row keyword.Join (actor, (scope, tt))
row_of (command.Do (event.BeginClose actor scope)) = row keyword.Close (actor, (scope, tt))
row_of (command.Do (event.EndClose actor scope)) = row keyword.Closed (actor, (scope, tt))
row_of (command.Retire actor) = row keyword.Retire (actor, tt)
row_of (command.Ask (query.State task)) = row keyword.State (task, tt)
row_of (command.Ask (query.Stage task)) = row keyword.Stage (task, tt)
row_of (command.Ask (query.Result actor task)) = row keyword.ResultOf (actor, (task, tt))
row_of (command.Ask (query.Fault actor task)) = row keyword.FaultOf (actor, (task, tt))
row_of (command.Ask (query.Cause scope)) = row keyword.Cause (scope, tt)
row_of (command.Ask (query.Until scope)) = row keyword.Until (scope, tt)
row_of (command.Ask (query.Counts scope)) = row keyword.Counts (scope, tt)
row_of (command.Ask (query.Get actor key)) = row keyword.Get (actor, (key, tt))

abbrev pub row_words : Row → List (List ℕ)
row_words (row f values) = keyword_word f ∷ values_words (slots f) values

-- the words of a command, as `{}` prints its numbers
unfoldable pub words_of : Command → List (List ℕ)
words_of c = row_words (row_of c)

-- the line with the words of a command, a space between each two
abbrev pub spelled : Command → List ℕ
spelled c = join_with_byte 32 (words_of c)

-- the command that is made of such values
abbrev pub made_by : (slots : List Slot) → Maker slots → Values slots → Command
made_by [] made values = made
made_by (slot ∷ slots) made values = made_by slots (made values.0) values.1

abbrev pub row_made : Row → Command
row_made (row f values) = made_by (slots f) (made f) values

abbrev pub RowFits : Row → Type 0
RowFits (row f values) = ValuesFit (slots f) values

-- the numbers fit their types, and the fields say the whole command: no job has an end that is expected of it
unfoldable pub HasWords : Command → Type 0
HasWords c = RowFits (row_of c) × (row_made (row_of c) ≡ c)

-- the words of a command say that command
abbrev pub WordsSayTheCommand : Type 0
WordsSayTheCommand = (c : Command) → HasWords c → fields_said (words_of c) ≡ line.Command c

-- and so does its line
abbrev pub LineSaysTheCommand : Type 0
LineSaysTheCommand = (c : Command) → HasWords c → line_said (spelled c) ≡ line.Command c
