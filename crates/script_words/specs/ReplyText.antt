-- The line of each reply, without the line feed.
use Rattle.std.specs.Prelude.{ℕ, ◌++◌, List, None, Option, Some, codes}
use Rattle.script_words.specs.Terms.{Cause, Counts, Effective, ForkReply, Reply, Verdict, decimal, fault_text, kind_word, line_of, outcome_text, stage_word, state_word, value_text}
use Rattle.scope_rules.specs.declared.types.answers.Effective.TheVariants as effective
use Rattle.scope_rules.specs.declared.types.answers.ForkReply.TheVariants as fork
use Rattle.scope_rules.specs.declared.types.answers.Verdict.TheVariants as verdict
use Rattle.script_words.specs.declared.reply.Reply.TheVariants as reply

abbrev pub task_line : ForkReply → List ℕ
task_line (fork.Thread task) = codes "task " ++ decimal task ++ codes " thread"
task_line (fork.Never task) = codes "task " ++ decimal task ++ codes " none"

abbrev pub closed_line : Verdict → List ℕ
closed_line verdict.Plain = codes "closed"
closed_line verdict.NotJoined = codes "closed not-joined"
closed_line verdict.Violated = codes "closed violated"

-- a scope that is not cancelled is live
abbrev pub cause_line : Option Cause → List ℕ
cause_line None = codes "live"
cause_line (Some cause) = codes "cancelled " ++ decimal cause.scope ++ codes " " ++ kind_word cause.kind

abbrev pub until_line : Effective → List ℕ
until_line effective.Past = codes "past"
until_line (effective.At moment) = codes "at " ++ decimal moment
until_line effective.Never = codes "never"

abbrev pub counts_line : Counts → List ℕ
counts_line c = codes "counts never=" ++ decimal c.never ++ codes " waiting=" ++ decimal c.waiting
    ++ codes " running=" ++ decimal c.running ++ codes " finished=" ++ decimal c.finished

-- the line of a reply
unfoldable pub reply_text : Reply → List ℕ
reply_text (reply.Scope scope) = codes "scope " ++ decimal scope
reply_text (reply.Task task) = task_line task
reply_text reply.Rejected = codes "rejected"
reply_text reply.Started = codes "started"
reply_text reply.Finished = codes "finished"
reply_text reply.Cancelled = codes "cancelled"
reply_text reply.Already = codes "already"
reply_text reply.Moved = codes "moved"
reply_text (reply.Moment moment) = codes "moment " ++ decimal moment
reply_text reply.Bound = codes "bound"
reply_text reply.Unbound = codes "unbound"
reply_text (reply.Outcome outcome) = codes "outcome " ++ outcome_text outcome
reply_text reply.Closing = codes "closing"
reply_text (reply.Closed verdict) = closed_line verdict
reply_text (reply.Retired scopes tasks) = codes "retired " ++ decimal scopes ++ codes " " ++ decimal tasks
reply_text (reply.State state) = codes "state " ++ state_word state
reply_text (reply.Stage stage) = codes "stage " ++ stage_word stage
reply_text (reply.Value value) = codes "value " ++ value_text value
reply_text (reply.Fault fault) = codes "fault " ++ fault_text fault
reply_text (reply.Cause cause) = cause_line cause
reply_text (reply.Until until) = until_line until
reply_text (reply.Counts counts) = counts_line counts
reply_text (reply.Refused refusal) = line_of refusal
