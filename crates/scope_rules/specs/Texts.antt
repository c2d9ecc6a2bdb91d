-- The texts of what goes in and comes out, in the words of a script: stages, states and causes, values, faults, ends,
-- labels, lists of tasks, and what a join gave.
use Rattle.std.specs.Prelude.{ℕ, ◌++◌, List, None, Option, Some, codes}
use Rattle.scope_rules.specs.Words.{CauseKind, Fault, Label, Outcome, Stage, State, TaskState, TaskValue, Value, decimal, flat_map, signed_decimal}
use Rattle.scope_rules.specs.{Ends.EndValue, Names.text_of, Tasks.state_by_end}
use Rattle.scope_rules.specs.declared.types.answers.CauseKind.TheVariants as kind
use Rattle.scope_rules.specs.declared.types.answers.Stage.TheVariants as stage
use Rattle.scope_rules.specs.declared.types.answers.State.TheVariants as state
use Rattle.scope_rules.specs.declared.types.outcomes.Outcome.TheVariants as outcome
use Rattle.scope_rules.specs.declared.types.values.Value.TheVariants as value

-- how far a task has come
abbrev pub stage_word : Stage → List ℕ
stage_word stage.Never = codes "never"
stage_word stage.Waiting = codes "waiting"
stage_word stage.Running = codes "running"
stage_word stage.Finished = codes "finished"

-- what can be read of a task, without its end
abbrev pub state_word : State → List ℕ
state_word state.Unavailable = codes "unavailable"
state_word (state.Success value) = codes "success"
state_word (state.Failed fault) = codes "failed"

-- what made the own cancel of a scope
abbrev pub kind_word : CauseKind → List ℕ
kind_word kind.Call = codes "call"
kind_word kind.Close = codes "close"
kind_word kind.Joiner = codes "joiner"
kind_word kind.Deadline = codes "deadline"

-- a number in decimal, a text as it is
abbrev pub value_text : Value → List ℕ
value_text (value.Num number) = signed_decimal number
value_text (value.Text name) = text_of name

abbrev pub fault_text : Fault → List ℕ
fault_text fault = text_of fault.0

-- how a task ended, as a list of tasks says it
abbrev pub end_text : State → List ℕ
end_text state.Unavailable = codes "none"
end_text (state.Success value) = codes "ok:" ++ value_text value
end_text (state.Failed fault) = codes "fail:" ++ fault_text fault

-- the name, and the end that is expected, if there is one: `NAME` or `NAME=ok:V` or `NAME=fail:F`
abbrev pub due_text : Option EndValue → List ℕ
due_text None = codes ""
due_text (Some end) = codes "=" ++ end_text (state_by_end end)

abbrev pub label_text : Label → List ℕ
label_text label = text_of label.name ++ due_text label.due

-- `K=V`
abbrev pub task_value_text : TaskValue → List ℕ
task_value_text t = decimal t.task ++ codes "=" ++ value_text t.value

-- `K=ok:V`, `K=fail:F` or `K=none`
abbrev pub task_state_text : TaskState → List ℕ
task_state_text t = decimal t.task ++ codes "=" ++ end_text t.state

-- the tasks with their values, each after a space
unfoldable pub values_text : List TaskValue → List ℕ
values_text values = flat_map (λ t. codes " " ++ task_value_text t) values

-- the tasks with how they ended, each after a space
unfoldable pub states_text : List TaskState → List ℕ
states_text states = flat_map (λ t. codes " " ++ task_state_text t) states

-- what a join gave
unfoldable pub outcome_text : Outcome → List ℕ
outcome_text (outcome.All values) = codes "all" ++ values_text values
outcome_text (outcome.Any task value) = codes "any " ++ decimal task ++ codes "=" ++ value_text value
outcome_text outcome.Empty = codes "empty"
outcome_text outcome.Done = codes "done"
outcome_text (outcome.Failed task fault) = codes "failed " ++ decimal task ++ codes " " ++ fault_text fault
outcome_text (outcome.List states) = codes "list" ++ states_text states
outcome_text outcome.Timeout = codes "timeout"
outcome_text (outcome.Partial states) = codes "partial" ++ states_text states
outcome_text (outcome.Cancelled scope) = codes "cancelled " ++ decimal scope
