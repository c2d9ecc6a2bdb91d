-- The line of each reply is printable.
use Rattle.std.proofs.Common.{◌++◌, List, None, Option, Some, codes, refl}
use Rattle.script_words.specs.{Cause, CauseKind, Counts, Effective, ForkReply, LinesArePrintable, Outcome, Refusal, Stage, State, TaskState, TaskValue, Verdict, cause_line, closed_line, counts_line, end_text, kind_word}
use Rattle.script_words.specs.{line_of, outcome_text, reply_text, stage_word, state_word, states_text, task_line, task_state_text, task_value_text, until_line, values_text, word_of}
use Rattle.script_words.proofs.Lemmas.{list_all-append}
use Rattle.script_words.proofs.PrintableText.{Shows, decimal_shows, each_shows, name_shows, value_shows}
use Rattle.scope_rules.specs.declared.types.answers.CauseKind.TheVariants as kind
use Rattle.scope_rules.specs.declared.types.answers.Effective.TheVariants as effective
use Rattle.scope_rules.specs.declared.types.answers.ForkReply.TheVariants as fork
use Rattle.scope_rules.specs.declared.types.answers.Stage.TheVariants as stage
use Rattle.scope_rules.specs.declared.types.answers.State.TheVariants as state
use Rattle.scope_rules.specs.declared.types.answers.Verdict.TheVariants as verdict
use Rattle.scope_rules.specs.declared.types.outcomes.Outcome.TheVariants as outcome
use Rattle.scope_rules.specs.declared.types.refusals.Refusal.TheVariants as refusal
use Rattle.script_words.specs.declared.reply.Reply.TheVariants as reply

end_shows : (s : State) → Shows (end_text s)
end_shows state.Unavailable = refl
end_shows (state.Success value) = value_shows value
end_shows (state.Failed fault) = name_shows fault.0

value_entry_shows : (t : TaskValue) → Shows (codes " " ++ task_value_text t)
value_entry_shows t = simp (list_all-append, decimal_shows, value_shows)

state_entry_shows : (t : TaskState) → Shows (codes " " ++ task_state_text t)
state_entry_shows t = simp (list_all-append, decimal_shows, end_shows)

values_show : (values : List TaskValue) → Shows (values_text values)
unfolding values_text
values_show values = each_shows (λ t. codes " " ++ task_value_text t) value_entry_shows values

states_show : (states : List TaskState) → Shows (states_text states)
unfolding states_text
states_show states = each_shows (λ t. codes " " ++ task_state_text t) state_entry_shows states

outcome_shows : (o : Outcome) → Shows (outcome_text o)
unfolding outcome_text
outcome_shows (outcome.All values) = values_show values
outcome_shows (outcome.Any task value) = simp (list_all-append, decimal_shows, value_shows)
outcome_shows (outcome.Failed task fault) = simp (list_all-append, decimal_shows, name_shows)
outcome_shows (outcome.List states) = states_show states
outcome_shows (outcome.Partial states) = states_show states
outcome_shows (outcome.Cancelled scope) = decimal_shows scope
outcome_shows _ = refl

task_shows : (t : ForkReply) → Shows (task_line t)
task_shows (fork.Thread task) = simp (list_all-append, decimal_shows)
task_shows (fork.Never task) = simp (list_all-append, decimal_shows)

closed_shows : (v : Verdict) → Shows (closed_line v)
closed_shows verdict.Plain = refl
closed_shows _ = refl

state_shows : (s : State) → Shows (state_word s)
state_shows state.Unavailable = refl
state_shows _ = refl

stage_shows : (s : Stage) → Shows (stage_word s)
stage_shows stage.Never = refl
stage_shows _ = refl

kind_shows : (k : CauseKind) → Shows (kind_word k)
kind_shows kind.Call = refl
kind_shows _ = refl

cause_shows : (c : Option Cause) → Shows (cause_line c)
cause_shows None = refl
cause_shows (Some cause) = simp (list_all-append, decimal_shows, kind_shows)

until_shows : (u : Effective) → Shows (until_line u)
until_shows effective.Past = refl
until_shows (effective.At moment) = decimal_shows moment
until_shows effective.Never = refl

counts_show : (c : Counts) → Shows (counts_line c)
counts_show c = simp (list_all-append, decimal_shows)

word_shows : (r : Refusal) → Shows (word_of r)
word_shows refusal.NoScope = refl
word_shows _ = refl

refusal_shows : (r : Refusal) → Shows (line_of r)
refusal_shows r = simp (list_all-append, decimal_shows, word_shows)

pub lines_are_printable : LinesArePrintable
unfolding reply_text
lines_are_printable (reply.Scope scope) = decimal_shows scope
lines_are_printable (reply.Task task) = task_shows task
lines_are_printable (reply.Moment moment) = decimal_shows moment
lines_are_printable (reply.Outcome outcome) = outcome_shows outcome
lines_are_printable (reply.Closed verdict) = closed_shows verdict
lines_are_printable (reply.Retired scopes tasks) = simp (list_all-append, decimal_shows)
lines_are_printable (reply.State state) = state_shows state
lines_are_printable (reply.Stage stage) = stage_shows stage
lines_are_printable (reply.Value value) = value_shows value
lines_are_printable (reply.Fault fault) = name_shows fault.0
lines_are_printable (reply.Cause cause) = cause_shows cause
lines_are_printable (reply.Until until) = until_shows until
lines_are_printable (reply.Counts counts) = counts_show counts
lines_are_printable (reply.Refused refusal) = refusal_shows refusal
lines_are_printable _ = refl
