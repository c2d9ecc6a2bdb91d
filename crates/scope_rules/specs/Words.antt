-- What the definitions of this crate take from the libraries below and from the types of its code, from one place.
pub use Rattle.std.specs.List.{Contains, cons_option, filter, filter_map, flat_map, list_all, list_any, range_with_len, sum_by}
pub use Rattle.std.specs.Prelude.{ℕ, Bool, List, Result, Some, false, nat_eq, take}
pub use Rattle.scope_rules.specs.declared.types.capacity.TheConstants.{FORK_LOAD, GREATEST_NUMBER, LEVEL_LIMIT, LOAD_LIMIT, OPEN_LOAD, SCOPE_LIMIT, STEP_LOAD, TASK_LIMIT}
pub use Rattle.scope_rules.specs.declared.types.events.Event.TheVariants.{BeginClose, Bind, Cancel, EndClose, Finish, Fork, Join, Move, Reject, Start, Tick, Unbind}
pub use Rattle.scope_rules.specs.declared.types.refusals.Refusal.TheVariants.{AlreadyJoined, BadWord, ClockBack, Memory, NoScope, NoTask, NotBound, NotFailed, NotOwner, NotReady, NotSuccess, Rejected, Retired, Structure, TooDeep}
pub use Rattle.scope_rules.specs.declared.types.refusals.Refusal.TheVariants.{TooMany, WrongStage}
pub use Rattle.std.specs.{Arc.arc_slice_items, Bool.Decides, Cmp.Derive.both_true, Cmp.Lexicographic.bytes_decides, Cmp.Lexicographic.pointwise, Fmt.HasWritten, Fmt.IsPlainFormatter, Fmt.decimal, Fmt.signed_decimal}
pub use Rattle.std.specs.{Option.MatchOption, Option.option_and_then, Option.option_map_or, Option.option_or, Ordering.int_eq, Str.IsUtf8, Str.bytes_eq}
pub use Rattle.scope_rules.specs.declared.types.{answers.Cancelling.Cancelling, answers.Cancelling.TheVariants.Already, answers.Cancelling.TheVariants.Recorded, answers.Cause.Cause, answers.CauseKind.CauseKind}
pub use Rattle.scope_rules.specs.declared.types.{answers.CauseKind.TheVariants.Call, answers.CauseKind.TheVariants.Close, answers.CauseKind.TheVariants.Deadline, answers.CauseKind.TheVariants.Joiner, answers.Counts.Counts}
pub use Rattle.scope_rules.specs.declared.types.{answers.Effective.Effective, answers.Effective.TheVariants.At, answers.Effective.TheVariants.Past, answers.ForkReply.ForkReply, answers.ForkReply.TheVariants.Thread}
pub use Rattle.scope_rules.specs.declared.types.{answers.Stage.Stage, answers.Stage.TheVariants.Finished, answers.Stage.TheVariants.Running, answers.Stage.TheVariants.Waiting, answers.State.State}
pub use Rattle.scope_rules.specs.declared.types.{answers.State.TheVariants.Success, answers.Verdict.TheVariants.Plain, answers.Verdict.TheVariants.Violated, answers.Verdict.Verdict, capacity.Limits.Limits, events.Binding.Binding}
pub use Rattle.scope_rules.specs.declared.types.{events.Event.Event, events.Expiry.Expiry, events.Expiry.TheVariants.Fail, events.Expiry.TheVariants.MoveOn, events.Options.Options, infos.ScopeInfo.ScopeInfo}
pub use Rattle.scope_rules.specs.declared.types.{infos.ScopeStage.ScopeStage, infos.ScopeStage.TheVariants.Closing, joiners.Policy.Policy, joiners.Policy.TheVariants.All, joiners.Policy.TheVariants.Any}
pub use Rattle.scope_rules.specs.declared.types.{joiners.Policy.TheVariants.AwaitAll, joiners.Policy.TheVariants.AwaitOk, joiners.Policy.TheVariants.Until, joiners.Rule.Rule, joiners.Rule.TheVariants.FailuresAtLeast}
pub use Rattle.scope_rules.specs.declared.types.{joiners.Rule.TheVariants.SuccessesAtLeast, joiners.Rule.TheVariants.SumAtLeast, names.Name.Name, outcomes.Outcome.Outcome, outcomes.TaskState.TaskState}
pub use Rattle.scope_rules.specs.declared.types.{outcomes.TaskValue.TaskValue, records.Ending.Ending, records.FirstCancel.FirstCancel, records.Forking.Forking, records.Opening.Opening, records.OwnCancel.OwnCancel}
pub use Rattle.scope_rules.specs.declared.types.{refusals.Refusal.Refusal, values.Completion.Completion, values.Fault.Fault, values.Label.Label, values.Value.TheVariants.Num, values.Value.TheVariants.Text, values.Value.Value}
