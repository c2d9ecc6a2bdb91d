-- The numbers by which C is answered: 0 and above if there was an answer, below 0 if there was none.
use Rattle.std.specs.Prelude.{ℕ, ℤ, ◌*◌, ◌+◌, ◌-◌, Err, None, Ok, Option, Result, Some, length, negsuc, pos}
use Rattle.balkreyn_c.specs.Words.{BareOutcome, Cause, CauseKind, Effective, EventReply, Fault, ForkReply, Refusal, Stage, State, Value, Verdict, refusal_number, text_of}
use Rattle.scope_rules.specs.declared.types.answers.CauseKind.TheVariants as kind
use Rattle.scope_rules.specs.declared.types.answers.Effective.TheVariants as effective
use Rattle.scope_rules.specs.declared.types.answers.ForkReply.TheVariants as fork
use Rattle.scope_rules.specs.declared.types.answers.Stage.TheVariants as stage
use Rattle.scope_rules.specs.declared.types.answers.State.TheVariants as state
use Rattle.scope_rules.specs.declared.types.answers.Verdict.TheVariants as verdict
use Rattle.scope_rules.specs.declared.types.values.Value.TheVariants as value
use Rattle.scope_checks.specs.declared.event_replies.EventReply.TheVariants as told
use Rattle.scope_index.specs.declared.bare.BareOutcome.TheVariants as bare

-- ---- if there was nothing to refuse: -21 to -25

abbrev pub no_realm : ℤ
no_realm = negsuc 20

abbrev pub has_realm : ℤ
has_realm = negsuc 21

abbrev pub bad_argument : ℤ
bad_argument = negsuc 22

abbrev pub untold : ℤ
untold = negsuc 23

abbrev pub busy : ℤ
busy = negsuc 24

-- ---- refusals: -1 to -20

abbrev pub refused : Refusal → ℤ
refused r = negsuc (refusal_number r - 1)

-- the number of what was answered, or of the refusal
abbrev pub number_of : {A : Type 0} → (A → ℤ) → Result A Refusal → ℤ
number_of tell (Ok x) = tell x
number_of tell (Err r) = refused r

-- ---- answers

-- a kind, and the scope or task that goes with it, in one number
abbrev pub two : ℕ → ℕ → ℤ
two kind number = pos (kind * 4294967296 + number)

-- a task that gets no thread is of kind 1
abbrev pub forked : ForkReply → ℤ
forked (fork.Thread task) = pos task
forked (fork.Never task) = two 1 task

abbrev pub closed : Verdict → ℤ
closed verdict.Plain = pos 0
closed verdict.NotJoined = pos 2
closed verdict.Violated = pos 3

-- what a command is told
abbrev pub told_number : EventReply → ℤ
told_number (told.Scope scope) = pos scope
told_number (told.Task reply) = forked reply
told_number told.Recorded = pos 0
told_number told.Already = pos 1
told_number (told.Closed verdict) = closed verdict
told_number told.Done = pos 0

-- what a join answered, without its list
abbrev pub outcome_number : BareOutcome → ℤ
outcome_number bare.All = two 1 0
outcome_number (bare.Any task value) = two 2 task
outcome_number bare.Empty = two 3 0
outcome_number bare.Done = two 4 0
outcome_number (bare.Failed task fault) = two 5 task
outcome_number bare.List = two 6 0
outcome_number bare.Timeout = two 7 0
outcome_number bare.Partial = two 8 0
outcome_number (bare.Cancelled scope) = two 9 scope

abbrev pub state_code : State → ℕ
state_code state.Unavailable = 0
state_code (state.Success value) = 1
state_code (state.Failed fault) = 2

abbrev pub state_number : State → ℤ
state_number s = pos (state_code s)

abbrev pub stage_number : Stage → ℤ
stage_number stage.Never = pos 0
stage_number stage.Waiting = pos 1
stage_number stage.Running = pos 2
stage_number stage.Finished = pos 3

abbrev pub kind_code : CauseKind → ℕ
kind_code kind.Call = 1
kind_code kind.Close = 2
kind_code kind.Joiner = 3
kind_code kind.Deadline = 4

abbrev pub cause_number : Option Cause → ℤ
cause_number None = pos 0
cause_number (Some cause) = two (kind_code cause.kind) cause.scope

abbrev pub until_number : Effective → ℤ
until_number effective.Never = pos 0
until_number (effective.At moment) = pos 1
until_number effective.Past = pos 2

-- the number of a scope or task, or 0 if there is none
abbrev pub some_number : Option ℕ → ℤ
some_number None = pos 0
some_number (Some number) = pos number

-- 0 of a number, and of a text its length
abbrev pub value_number : Value → ℤ
value_number (value.Num number) = pos 0
value_number (value.Text name) = pos (length (text_of name))

abbrev pub fault_number : Fault → ℤ
fault_number fault = pos (length (text_of fault.0))
