-- What the definitions of this crate take from the libraries below and from the types of its code, from one place.
pub use Rattle.std.specs.Prelude.{[], ℕ, ◌++◌, ◌<◌, ◌==◌, ◌↔◌, ◌∷◌, ◌≡◌, ◌≢◌, ◌≤◌, ◌⊎◌, Bool, Err, IfErr, IfOk, IfSome, IsOk, IsSome, IsTrue, List, MatchResult, None, OnOk, Option, Result, Some}
pub use Rattle.std.specs.Prelude.{false, is_some, map, slice_index_or, true}
pub use Rattle.std.specs.{List.filter, List.list_any, Result.IsErrAnd}
pub use Rattle.atomic_table.specs.Seated.{TableId}
pub use Rattle.job_runner.specs.Forks.{Before, ForkWhy, ForksJob, ForksRejected, Rejected, refusal_of, reply_there, why_of}
pub use Rattle.job_runner.specs.{Reports.ClosesHere, Reports.StaysBegunHere, Reports.StaysHere, Rooms.DoesInRoom}
pub use Rattle.quote_plan.specs.Allowed.{AllowedText, AllowedTextBy, HasExpired, PartText}
pub use Rattle.quote_plan.specs.{Answering.Answers, Answering.IsCancelled, Plans.Named, Plans.PlanValue, Plans.label_of, Plans.labels_of, Plans.policy_of}
pub use Rattle.quote_plan.specs.declared.{answering.NoAnswer.NoAnswer, answers.Answer.Answer, plans.Mode.Mode}
pub use Rattle.realm_core.specs.Calls.{Accepted, Added, DidOrMemory, DoesOrMemory, HasLooked, Looked, OutOfMemory, Refused, SeesMore, history_seen, step_check}
pub use Rattle.realm_core.specs.{Closes.Begins, Closes.ClosesBare, Closes.ClosesDown, Ends.Ends, Ends.end_step, Ends.ended, Reports.numbers, Views.Joins, Waiting.IsOpenOf}
pub use Rattle.realm_core.specs.declared.{joins.Joined.Joined, reports.CloseReport.CloseReport}
pub use Rattle.realm_lock.specs.Waits.{JoinsBy, JoinsThen, StaysUnclosed, Stopped, StopsClosing, Waited, WaitsToClose, began, looked, read, ticked}
pub use Rattle.scope_rules.specs.History.{History, before, followed, scopes, task_numbers, tasks}
pub use Rattle.scope_rules.specs.{Answers.entry_in, Answers.listing_by, Checks.Checked, Checks.task_check, Ends.LabelValue, Legal.Accepts, Load.over_load, Names.same_name, Replies.fork_reply}
pub use Rattle.scope_rules.specs.{Replies.next_scope, Scopes.ends, Table.answering, Table.check_of, Tasks.rejects}
pub use Rattle.scope_rules.specs.declared.types.events.Event.TheVariants.{BeginClose, EndClose, Fork, Join, Open, Reject}
pub use Rattle.scope_rules.specs.declared.types.{answers.Cancelling.Cancelling, answers.Cancelling.TheVariants.Already, answers.Cancelling.TheVariants.Recorded, answers.ForkReply.ForkReply}
pub use Rattle.scope_rules.specs.declared.types.{answers.ForkReply.TheVariants.Never, answers.ForkReply.TheVariants.Thread, answers.State.State, answers.Verdict.Verdict, capacity.Limits.Limits}
pub use Rattle.scope_rules.specs.declared.types.{capacity.TheConstants.STEP_LOAD, events.Event.Event, events.Expiry.TheVariants.Fail, events.Expiry.TheVariants.MoveOn, events.Options.Options}
pub use Rattle.scope_rules.specs.declared.types.{joiners.Policy.Policy, outcomes.Outcome.Outcome, outcomes.TaskState.TaskState, records.Forking.Forking, records.Opening.Opening}
pub use Rattle.scope_rules.specs.declared.types.{refusals.Refusal.Refusal, refusals.Refusal.TheVariants.ClockBack, refusals.Refusal.TheVariants.Memory}
pub use Rattle.share_ledger.specs.Steps.{LegalFrom, Passes, advance, advanced, asked, fresh}
pub use Rattle.share_ledger.specs.{Holders.Adds, Holders.Agrees, Holders.Looks, Holders.is_own, Named.NamedValue, Tickets.is_event, Values.OwnerValue}
pub use Rattle.share_ledger.specs.declared.steps.RealmStep.TheVariants.{Asked, Happened, Retirement}
pub use Rattle.share_ledger.specs.declared.steps.{Ask.Ask, Ask.TheVariants.Tick, Holder.TheVariants.TokenOf, RealmStep.RealmStep}
pub use Rattle.thread_pool.specs.Teams.{TeamValue}
pub use Rattle.quote_gateway.specs.declared.faults.GatewayFault.{GatewayFault}
unfoldable pub use Rattle.quote_plan.specs.AnswerText.{answer_text}
unfoldable pub use Rattle.scope_rules.specs.Outcomes.{joining, outcome, outcome_of}
unfoldable pub use Rattle.scope_rules.specs.{Cancels.is_cancelled, Checks.checks, Checks.then_check, Completions.is_task_of, History.forking, History.moment, History.opening, Legal.Legal, Nests.label}
unfoldable pub use Rattle.scope_rules.specs.{Nests.tasks_of, Replies.base_of, Scopes.closed, Scopes.innermost, Search.latest, Table.row_check, Tasks.rejected, Tasks.state}
unfoldable pub use Rattle.share_ledger.specs.Steps.{IsLegal, history_of}
