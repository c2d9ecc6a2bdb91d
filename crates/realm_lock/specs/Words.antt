-- What the definitions of this crate take from the libraries below and from the types of its code, from one place.
pub use Rattle.realm_core.specs.Calls.{Accepted, Added, DidPerform, DoesOrMemory, HasLooked, Looked, OutOfMemory, Performed, Reads, Records, RecordsOrMemory, Refused, SeesMore, TicketAdded, done, history_seen}
pub use Rattle.realm_core.specs.Closes.{Begins, ClosesBare, ClosesWith, EndedThere, EndsLater, EndsReported, HoldsBack, IsBegun, MayEnd, MayReport, ReportedThere, StaysOpen}
pub use Rattle.scope_rules.specs.declared.types.refusals.Refusal.TheVariants.{AlreadyJoined, Closed, Memory, NoScope, NoTask, NotOwner, NotReady, Retired, TooMany, WrongStage}
pub use Rattle.std.specs.{Duration.as_nanos, List.All, List.list_any, Option.MatchOption, Option.option_and_then, Option.option_or, Prelude.Err, Prelude.List, Prelude.Ok, Prelude.Result, Prelude.ℕ, Sync.Mutex.mutex_guard_value}
pub use Rattle.cancel_marks.specs.{Marked.said_by, Seats.CellValue, Seats.Seen, Seats.SetterValue}
pub use Rattle.cancel_marks.specs.declared.cancellation.Cancellation.{Cancellation}
pub use Rattle.cancel_tree.specs.Order.{IsBefore, IsInOrder}
pub use Rattle.join_rules.specs.Joiners.{policy_of}
pub use Rattle.realm_core.specs.{Cores.CoreValue, Ends.Ends, Ends.end_step, Reports.numbers, Tasks.Finishes, Tasks.GivesTicket, Tasks.IsRunning, Tasks.MayFinish, Tasks.reply_of, Tasks.ticket_aside, Telling.Shown, Telling.Stepped}
pub use Rattle.realm_core.specs.{Telling.stepping, Views.IsMarkOf, Views.Joins, Views.JoinsBare, Views.MarkedViewAnswers, Views.ViewAnswers, Waiting.FoundUnsettled, Waiting.HoldsUp, Waiting.IsOpenOf}
pub use Rattle.realm_core.specs.declared.{forking.Forked.Forked, joins.Joined.Joined, reports.CloseReport.CloseReport}
pub use Rattle.scope_book.specs.Books.{refusal_alone}
pub use Rattle.scope_checks.specs.{EventReplies.records, Queries.cancellation}
pub use Rattle.scope_checks.specs.declared.event_replies.EventReply.{EventReply}
pub use Rattle.scope_index.specs.{CancelsOf.IsCancelOrderOf, Coming.IsNextDeadline, Coming.NoDeadlineComes}
pub use Rattle.scope_index.specs.declared.bare.BareOutcome.{BareOutcome}
pub use Rattle.scope_rules.specs.{Checks.Checked, Checks.actor_check, Checks.refuse_if, Checks.scope_check, Checks.task_check, Ends.EndValue, Ends.LabelValue, History.History, History.followed, History.is_open}
pub use Rattle.scope_rules.specs.{History.opened_count, Load.over_load, Origin.Origin, Replies.Realm, Replies.fork_reply, Replies.next_scope, Table.answering, Table.check_of, Tasks.is_running}
pub use Rattle.scope_rules.specs.declared.types.{answers.Cancelling.Cancelling, answers.Cause.Cause, answers.Verdict.Verdict, capacity.Limits.Limits, capacity.TheConstants.STEP_LOAD, events.Event.Event}
pub use Rattle.scope_rules.specs.declared.types.{events.Event.TheVariants.Fork, events.Event.TheVariants.Join, events.Event.TheVariants.Open, events.Event.TheVariants.Reject, events.Options.Options, joiners.Policy.Policy}
pub use Rattle.scope_rules.specs.declared.types.{records.FirstCancel.FirstCancel, records.Opening.Opening, refusals.Refusal.Refusal}
pub use Rattle.share_ledger.specs.{Steps.advance, Steps.asked, Steps.fresh, Steps.step_by, Tickets.given_in, Values.IsWaiting, Values.OwnerValue, Values.TicketValue, Values.is_recorded_by}
pub use Rattle.share_ledger.specs.declared.steps.{Ask.Ask, Holder.TheVariants.TokenOf, RealmStep.RealmStep, RealmStep.TheVariants.Asked, RealmStep.TheVariants.Happened, RealmStep.TheVariants.Retirement}
pub use Rattle.slab.specs.Slab.{slab_len}
pub use Rattle.realm_lock.specs.declared.lookouts.Wanted.{TheVariants.Scope, TheVariants.Sign, Wanted}
unfoldable pub use Rattle.realm_state.specs.Fits.{Fitting}
unfoldable pub use Rattle.scope_rules.specs.{Cancels.cancelled_at, Cancels.cause, Cancels.effective, Cancels.first_cancel, Cancels.is_cancelled, Checks.checks, Checks.known_actor, Checks.known_scope, Checks.known_task}
unfoldable pub use Rattle.scope_rules.specs.{Checks.owns, Checks.then_check, History.forking, History.moment, History.opening, Legal.Legal, Replies.base_of, Replies.binding_reply, Replies.fault_reply, Replies.result_reply}
unfoldable pub use Rattle.scope_rules.specs.{Scopes.closing, Scopes.innermost, Scopes.joined, Search.latest, Table.row_check, Table.until_check, Tasks.ready, Tasks.settled, Tasks.stage, Tasks.state, Verdicts.verdict}
unfoldable pub use Rattle.share_ledger.specs.Steps.{IsLegal, history_of}
