-- What the definitions of this crate take from the libraries below and from the types of its code, from one place.
pub use Rattle.scope_checks.specs.EventReplies.{Answered, Performs, after_telling, event_reply_of, noted, noting, records, wants_memory}
pub use Rattle.scope_log.specs.Log.{LogValue, entries_next, entry_of, is_of, mark_next, mark_of, said}
pub use Rattle.scope_rules.specs.History.{History, followed, forked_count, is_fork, is_open, opened_count, opening_of, scopes, task_numbers}
pub use Rattle.scope_rules.specs.Replies.{Answers, AnswersOrMemory, AnswersValue, Realm, fork_reply, next_scope, recorded, starting, with_event}
pub use Rattle.scope_rules.specs.Tasks.{ending_of, finishes, is_never, is_running, is_waiting, rejects, starts}
pub use Rattle.scope_rules.specs.declared.types.events.Event.TheVariants.{BeginClose, Cancel, EndClose, Finish, Fork, Join, Move, Open, Reject, Start, Tick}
pub use Rattle.share_ledger.specs.Values.{AgreesWith, IsWaiting, KeeperValue, OwnerAgrees, OwnerValue, TicketAgrees, TicketValue, is_recorded_by, one_if}
pub use Rattle.std.specs.{List.All, List.Sorted.IsPermutation, List.cons_option, List.filter, List.list_any, List.range_with_len, Option.option_and_then, Option.option_map_or, Option.option_or}
pub use Rattle.atomic_table.specs.Seated.{TableId}
pub use Rattle.realm_state.specs.Fits.{FitsEvent, FitsTask}
pub use Rattle.scope_checks.specs.Entering.{Enters}
pub use Rattle.scope_checks.specs.declared.event_replies.EventReply.{EventReply, TheVariants.Task}
pub use Rattle.scope_index.specs.{Bare.bare_of, CancelsOf.IsCancelOrderOf}
pub use Rattle.scope_index.specs.declared.bare.BareOutcome.{BareOutcome}
pub use Rattle.scope_log.specs.LocalForms.{finishes_task, starts_task}
pub use Rattle.scope_log.specs.declared.{entries.LogEntry.LogEntry, previews.Preview.Preview}
pub use Rattle.scope_rules.specs.{Cancels.direct_kind, Cancels.own_cancel, Checks.Checked, Checks.actor_check, Checks.refuse_if, Checks.scope_check, Checks.task_check, Earliest.IsEarliest, Ends.EndValue, Ends.LabelValue}
pub use Rattle.scope_rules.specs.{Legal.Accepts, Load.weight, Nests.unclosed_after, Origin.Origin, Origin.the_start, Scopes.begins_closing, Scopes.ends, Scopes.have_one_opener, Scopes.joins, Scopes.unclosed_of, Table.check_of}
pub use Rattle.scope_rules.specs.{Table.is_already}
pub use Rattle.scope_rules.specs.declared.types.{answers.Cancelling.Cancelling, answers.Cancelling.TheVariants.Already, answers.Cancelling.TheVariants.Recorded, answers.Cause.Cause, answers.CauseKind.CauseKind}
pub use Rattle.scope_rules.specs.declared.types.{answers.CauseKind.TheVariants.Close, answers.CauseKind.TheVariants.Deadline, answers.CauseKind.TheVariants.Joiner, answers.ForkReply.ForkReply, answers.Stage.TheVariants.Finished}
pub use Rattle.scope_rules.specs.declared.types.{answers.Stage.TheVariants.Running, answers.Stage.TheVariants.Waiting, answers.Verdict.Verdict, capacity.Limits.Limits, events.Event.Event, events.Options.Options}
pub use Rattle.scope_rules.specs.declared.types.{joiners.Policy.Policy, outcomes.Outcome.Outcome, records.Ending.Ending, records.FirstCancel.FirstCancel, records.Forking.Forking, records.Opening.Opening}
pub use Rattle.scope_rules.specs.declared.types.{records.OwnCancel.OwnCancel, refusals.Refusal.Refusal, refusals.Refusal.TheVariants.Closed, refusals.Refusal.TheVariants.Memory, refusals.Refusal.TheVariants.NotReady}
pub use Rattle.scope_rules.specs.declared.types.{refusals.Refusal.TheVariants.Structure, refusals.Refusal.TheVariants.Unavailable, refusals.Refusal.TheVariants.WrongStage}
pub use Rattle.share_ledger.specs.{Holders.Adds, Holders.Agrees, Holders.Looks, Holders.is_own, StepLaws.end_shown, StepLaws.grant_shown, Steps.LegalFrom, Steps.Passes, Steps.advance, Steps.advanced, Steps.asked, Steps.step_by}
pub use Rattle.share_ledger.specs.{Tickets.Grant, Tickets.finished_in, Tickets.given_in, Tickets.is_event}
pub use Rattle.share_ledger.specs.declared.steps.{Ask.Ask, Holder.Holder, Holder.TheVariants.TicketOf, Holder.TheVariants.TokenOf, RealmStep.RealmStep, RealmStep.TheVariants.Asked, RealmStep.TheVariants.Happened}
pub use Rattle.share_ledger.specs.declared.steps.{RealmStep.TheVariants.Retirement}
pub use Rattle.realm_core.specs.declared.{forking.Forked.Forked, joins.Joined.Joined, reports.CloseReport.CloseReport, views.View.View}
unfoldable pub use Rattle.scope_rules.specs.Cancels.{cancelled_at, cancelled_before, cause, first_cancel, is_cancelled, joiner_fires, overdue, own}
unfoldable pub use Rattle.scope_rules.specs.Scopes.{chain, closed, closing, covers, innermost, joined, outer}
unfoldable pub use Rattle.scope_rules.specs.Tasks.{counts, ending, finished, has_tasks, rejected, settled, stage, started}
unfoldable pub use Rattle.realm_state.specs.Fits.{Fitting}
unfoldable pub use Rattle.scope_log.specs.{Log.entries, Log.log, Previews.preview}
unfoldable pub use Rattle.scope_rules.specs.{Checks.checks, Checks.in_closing, Checks.is_innermost, Checks.known_actor, Checks.owns, Checks.then_check, Completions.is_task_of, History.forking, History.moment, History.opening}
unfoldable pub use Rattle.scope_rules.specs.{Legal.Legal, Nests.inner, Nests.next_unclosed, Nests.tasks_of, Outcomes.outcome, Replies.base_of, Replies.outcome_check, Search.earliest, Table.retire_check, Table.row_check}
unfoldable pub use Rattle.scope_rules.specs.{Verdicts.verdict, Verdicts.violated}
unfoldable pub use Rattle.share_ledger.specs.{Steps.IsLegal, Steps.history_of, Tickets.end_in, Tickets.grant_in, Tickets.rejected_in, Tickets.started_in}
