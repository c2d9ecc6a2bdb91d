-- What the definitions of this crate take from the libraries below and from the types of its code, from one place.
pub use Rattle.realm_core.specs.Calls.{Accepted, Added, DoesOrMemory, Looked, Reads, RecordsOrMemory, SeesMore, history_seen}
pub use Rattle.realm_core.specs.Closes.{Begins, ClosesBare, ClosesDown, EndsLater, EndsReported, HoldsBack, IsBegun}
pub use Rattle.realm_lock.specs.Waits.{ClosesAfter, HasCome, HasPassed, JoinsBy, StaysUnclosed, Stopped, StopsClosing, Waited, WaitsToClose, began, shown_in}
pub use Rattle.thread_pool.specs.Teams.{AreGone, ArePartedAt, HasRoom, HasRoomFor, HasThreadMore, HasThreadsMore, IsSameTeam, TeamValue}
pub use Rattle.std.specs.{List.All, List.Sorted.IsPermutation, List.filter, Option.MatchOption, Prelude.MatchResult, Prelude.None, VecDeque.deque_capacity, VecDeque.deque_len}
pub use Rattle.atomic_table.specs.Seated.{TableId}
pub use Rattle.cancel_marks.specs.{Marked.said_by, Seats.CellValue, Seats.Seen}
pub use Rattle.cancel_marks.specs.declared.marks.Mark.{Mark}
pub use Rattle.join_rules.specs.Joiners.{policy_of}
pub use Rattle.once_cell.specs.Once.{Agrees}
pub use Rattle.realm_core.specs.{Tasks.Finishes, Tasks.IsNewTicket, Tasks.MayFinish, Views.MarkedViewAnswers, Views.ViewAnswers, Waiting.FoundUnsettled, Waiting.IsOpenOf}
pub use Rattle.realm_core.specs.declared.{forking.Forked.Forked, reports.CloseReport.CloseReport}
pub use Rattle.realm_lock.specs.Batches.{ForksAll, ForksEach, ForksNext, ForksUpTo, forking}
pub use Rattle.scope_book.specs.Books.{refusal_alone}
pub use Rattle.scope_rules.specs.{Checks.task_check, Ends.EndValue, Ends.LabelValue, History.History, Names.text_of, Replies.fork_reply, Replies.next_scope, Table.answering, Table.check_of, Tasks.is_settled}
pub use Rattle.scope_rules.specs.declared.types.{answers.Cancelling.Cancelling, answers.ForkReply.ForkReply, answers.Stage.TheVariants.Running, capacity.Limits.Limits, events.Event.TheVariants.Finish}
pub use Rattle.scope_rules.specs.declared.types.{events.Event.TheVariants.Fork, events.Event.TheVariants.Reject, records.Opening.Opening, refusals.Refusal.Refusal, refusals.Refusal.TheVariants.Memory}
pub use Rattle.scope_rules.specs.declared.types.{refusals.Refusal.TheVariants.NotReady, values.Fault.Fault}
pub use Rattle.share_ledger.specs.{Named.NamedValue, Values.IsWaiting, Values.OwnerValue, Values.TicketValue}
pub use Rattle.share_ledger.specs.declared.steps.RealmStep.{RealmStep, TheVariants.Happened}
pub use Rattle.thread_pool.specs.Returns.{Returns}
pub use Rattle.job_runner.specs.declared.{contexts.OpenScope.OpenScope, forking.ForkRefusal.ForkRefusal, works.JobWork.JobWork}
unfoldable pub use Rattle.realm_state.specs.Fits.{Fitting}
unfoldable pub use Rattle.scope_rules.specs.{Cancels.effective, History.opening, NameText.is_name, Replies.base_of, Replies.binding_reply, Replies.fault_reply, Replies.result_reply, Scopes.closed, Scopes.innermost}
unfoldable pub use Rattle.scope_rules.specs.{Table.until_check, Tasks.stage, Tasks.state, Verdicts.verdict}
unfoldable pub use Rattle.share_ledger.specs.{Steps.IsLegal, Steps.history_of, Tickets.end_in}
