-- What the definitions of this crate take from the libraries below and from the types of its code, from one place.
pub use Rattle.scope_rules.specs.Replies.{AnswersOrMemory, AnswersValue, Realm, after_retiring, base_check, starting, with_event}
pub use Rattle.scope_rules.specs.declared.types.events.Event.TheVariants.{BeginClose, EndClose, Finish, Fork, Join, Open, Tick}
pub use Rattle.std.specs.{Borrow.Fml, Borrow.MutBor, Borrow.follows_so, Borrow.sem, List.cons_option, List.filter_map, List.list_any, List.position, List.position_or_len, Option.ForSome, Option.option_and_then}
pub use Rattle.std.specs.{Option.option_map_or, Prelude.Bool, Prelude.ℕ, Result.is_err}
pub use Rattle.scope_checks.specs.{Entering.Retires, Entering.Tells, EventReplies.after_telling, EventReplies.records, Passes.Passes, Ruled.IsRuled}
pub use Rattle.scope_checks.specs.declared.event_replies.EventReply.{EventReply}
pub use Rattle.scope_index.specs.{Answers.HasJoined, Bare.bare_of, CancelTables.CancelTable, CancelTables.HasRow, CancelsOf.AreCancelsOf, CancelsOf.IsCancelOrderOf, Coming.IsNextDeadline, Coming.NoDeadlineComes}
pub use Rattle.scope_index.specs.{Events.HasAppliedAt, Events.IsReadyAt, ForkTable.ForkTable, ForkTable.HasForks, ForksOf.AreForksOf, IndexTables.IndexTable, IndexTables.IsIndexOf, Lent.scopes_of}
pub use Rattle.scope_journal.specs.{Marks.cancel_of, Marks.marked, Marks.up_to, Places.IsLatest, Places.is_of_at, Places.scope_of_event, Places.scope_of_task, TrailTable.HasEventRoom, TrailTable.HasTrail, TrailTable.TrailTable}
pub use Rattle.scope_journal.specs.{TrailsOf.AreTrailsOf, TrailsOf.HasLoadRoom}
pub use Rattle.scope_log.specs.{LocalForms.task_forked, Log.entry_at, Log.is_of, Log.said_with}
pub use Rattle.scope_log.specs.declared.entries.LogEntry.{LogEntry}
pub use Rattle.scope_rows.specs.{Agreement.AreRowsOf, Agreement.IsScopeRow, Agreement.IsTaskRow, DeadlineTable.DeadlineTable, DeadlineTable.HasDeadline, DeadlinesOf.AreDeadlinesOf, Table.RowTable, Table.scope_row}
pub use Rattle.scope_rows.specs.declared.records.{ScopeRow.ScopeRow, TaskRow.TaskRow}
pub use Rattle.scope_rules.specs.{Bindings.bound_as_at, Checks.Checked, Checks.actor_check, Checks.scope_check, Checks.task_check, Ends.EndValue, Ends.LabelValue, History.History, History.before, History.followed}
pub use Rattle.scope_rules.specs.{History.forking_of, History.is_open, Legal.Accepts, Legal.IsWithin, Load.weight, Origin.Origin, Owed.begin_mark, Owed.marks, Scopes.ends, Scopes.forked_in, Scopes.joins, Table.check_of}
pub use Rattle.scope_rules.specs.declared.types.{answers.Cause.Cause, answers.Counts.Counts, answers.Stage.TheVariants.Never, answers.Stage.TheVariants.Running, answers.Stage.TheVariants.Waiting}
pub use Rattle.scope_rules.specs.declared.types.{answers.Verdict.TheVariants.NotJoined, answers.Verdict.TheVariants.Plain, answers.Verdict.TheVariants.Violated, capacity.Limits.Limits, capacity.TheConstants.LOAD_LIMIT}
pub use Rattle.scope_rules.specs.declared.types.{events.Event.Event, records.Forking.Forking, records.Opening.Opening, refusals.Refusal.Refusal, values.Label.Label}
pub use Rattle.scoped_env.specs.{Agreement.AreEnvsOf, EnvTable.EnvTable, EnvTable.HasEnv}
pub use Rattle.realm_state.specs.declared.steps.Step.{Step}
unfoldable pub use Rattle.scope_rules.specs.Scopes.{closed, closing, innermost, joined, level, next_level, surrounding}
unfoldable pub use Rattle.scope_journal.specs.Places.{places_of}
unfoldable pub use Rattle.scope_log.specs.{LocalForms.tasks_in, Log.entries, Log.log, Previews.preview}
unfoldable pub use Rattle.scope_rules.specs.{Bindings.bound_as_opened, Bindings.holds_last, Bindings.stack, Checks.known_task, History.forking, History.opening, Legal.Legal, Load.load, Nests.tasks_of, Outcomes.outcome}
unfoldable pub use Rattle.scope_rules.specs.{Replies.base_of, Replies.outcome_check, Table.row_check, Tasks.counts, Tasks.has_tasks, Tasks.settled, Tasks.stage, Tasks.stage_of, Verdicts.verdict}
