-- What the definitions of this crate take from the libraries below and from the types of its code, from one place.
pub use Rattle.std.specs.Prelude.{ℕ, Err, IfOk, MatchResult, None, Ok, Result}
pub use Rattle.job_runner.specs.Forks.{Before, ForkWhy, ForksJob, KeepsThread, job_of, refusal_of, why_alone, why_of}
pub use Rattle.realm_lock.specs.Waits.{ClosesAfter, HasCome, HasPassed, JoinsBy, StaysUnclosed, Stopped, StopsClosing, Waited, WaitsToClose, shown_in}
pub use Rattle.std.specs.{Arc.arc_value, Borrow.MutBor, Fn.CalledWithState, Fn.Mut, Fn.Once, List.Contains, List.list_all}
pub use Rattle.cancel_marks.specs.Seats.{Seen}
pub use Rattle.cancel_marks.specs.declared.marks.Mark.{Mark}
pub use Rattle.job_runner.specs.{Lists.ListsBelow, Lists.ListsOne, Marks.Shows, Marks.seat_here, Reports.ClosesHere, Reports.StaysHere, Rooms.DoesInRoom}
pub use Rattle.job_runner.specs.declared.forking.ForkRefusal.{ForkRefusal}
pub use Rattle.join_rules.specs.Joiners.{policy_of}
pub use Rattle.realm_core.specs.{Calls.DoesOrMemory, Calls.Reads, Calls.RecordsOrMemory, Calls.SeesMore, Calls.history_seen, Closes.ClosesBare, Views.Joins, Waiting.FoundUnsettled, Waiting.IsOpenOf}
pub use Rattle.realm_core.specs.declared.joins.Joined.{Joined}
pub use Rattle.realm_lock.specs.Looks.{IsSeen}
pub use Rattle.scope_rules.specs.{Checks.task_check, Ends.EndValue, Ends.LabelValue, History.History, NameText.begins_with_letter, NameText.is_inner, Names.text_of, Replies.next_scope, Table.answering}
pub use Rattle.scope_rules.specs.declared.types.{answers.Cancelling.Cancelling, answers.Cause.Cause, answers.CauseKind.CauseKind, answers.CauseKind.TheVariants.Call, answers.CauseKind.TheVariants.Close}
pub use Rattle.scope_rules.specs.declared.types.{answers.CauseKind.TheVariants.Deadline, answers.CauseKind.TheVariants.Joiner, answers.Effective.Effective, answers.Effective.TheVariants.At, answers.Effective.TheVariants.Past}
pub use Rattle.scope_rules.specs.declared.types.{answers.ForkReply.ForkReply, answers.ForkReply.TheVariants.Thread, answers.State.State, answers.State.TheVariants.Success, answers.Verdict.TheVariants.Plain}
pub use Rattle.scope_rules.specs.declared.types.{answers.Verdict.TheVariants.Violated, answers.Verdict.Verdict, capacity.Limits.Limits, capacity.TheConstants.FORK_LOAD, capacity.TheConstants.OPEN_LOAD}
pub use Rattle.scope_rules.specs.declared.types.{capacity.TheConstants.STEP_LOAD, events.Event.TheVariants.Bind, events.Event.TheVariants.Cancel, events.Event.TheVariants.Open, events.Event.TheVariants.Unbind}
pub use Rattle.scope_rules.specs.declared.types.{events.Expiry.Expiry, events.Expiry.TheVariants.Fail, events.Options.Options, joiners.Policy.Policy, names.Name.Name, outcomes.Outcome.Outcome, outcomes.Outcome.TheVariants.All}
pub use Rattle.scope_rules.specs.declared.types.{outcomes.Outcome.TheVariants.Any, outcomes.Outcome.TheVariants.Done, outcomes.Outcome.TheVariants.Empty, refusals.Refusal.Refusal, refusals.Refusal.TheVariants.Memory}
pub use Rattle.scope_rules.specs.declared.types.{refusals.Refusal.TheVariants.NotReady, refusals.Refusal.TheVariants.NotSuccess, values.Fault.Fault, values.Value.Value}
pub use Rattle.script_journal.specs.{Script.script_text, Timed.WithTimes, Timed.timed_text}
pub use Rattle.share_ledger.specs.{Clocks.IsAfter, Values.OwnerValue}
pub use Rattle.share_ledger.specs.declared.steps.RealmStep.TheVariants.{Happened}
pub use Rattle.thread_pool.specs.Teams.{AreGone}
pub use Rattle.tree_dump.specs.{Ages.Clock, Ages.no_clock, Kept.known_clock, TextTree.tree_text, Waits.with_waits}
pub use Rattle.tree_dump.specs.declared.waits.Waits.{Waits}
pub use Rattle.balkreyn.specs.declared.{act.baton.Side.Side, act.baton.Side.TheVariants.First, act.baton.Side.TheVariants.Second, act.blocks.Backoff.Backoff, act.came.Came.Came, act.came.Came.TheVariants.Cut, act.channels.Put.Put}
pub use Rattle.balkreyn.specs.declared.{act.channels.Received.Received, act.channels.Sent.Sent, act.hooks.Happening.Happening, act.hooks.Happening.TheVariants.Cancelled, act.rooms.Need.Need, act.rooms.Room.Room}
pub use Rattle.balkreyn.specs.declared.{act.told.Told.Told, times.Reached.Reached, times.Times.Times}
unfoldable pub use Rattle.realm_state.specs.Fits.{Fitting}
unfoldable pub use Rattle.scope_log.specs.LocalForms.{cause_in}
unfoldable pub use Rattle.scope_rules.specs.{Cancels.effective, Replies.result_reply, Table.until_check, Tasks.state}
unfoldable pub use Rattle.share_ledger.specs.Steps.{history_of}
unfoldable pub use Rattle.tree_dump.specs.{TextTree.tree_by, Tree.dump_text}
