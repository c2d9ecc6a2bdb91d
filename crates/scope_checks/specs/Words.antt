-- What the definitions of this crate take from the libraries below and from the types of its code, from one place.
pub use Rattle.scope_rules.specs.Checks.{Checked, Tried, actor_check, load_fits, not_closing, not_joined, owned, owner_check, refusal_of, refuse_closing, refuse_if, remade, scope_check, task_check}
pub use Rattle.scope_rules.specs.Replies.{Answers, AnswersOrMemory, AnswersValue, Realm, after, after_recording, after_retiring, fork_reply, next_scope, recording, with_event}
pub use Rattle.scope_rules.specs.Table.{answering, check_of, is_already, owns_task, reading_row, retire_row, rows, task_joined, until_row}
pub use Rattle.scope_rules.specs.declared.types.events.Event.TheVariants.{BeginClose, Bind, Cancel, EndClose, Finish, Fork, Join, Move, Open, Reject, Start, Tick, Unbind}
pub use Rattle.std.specs.{Option.option_and_then, Option.option_map_or, Prelude.Option, Prelude.option_map, Prelude.ℕ}
pub use Rattle.scope_rules.specs.{Ends.EndValue, History.History, History.scopes, History.tasks, Legal.IsWithin, Load.over_load, Load.over_scopes, Load.over_tasks, Load.weight, Nests.info_reply, Nests.inner_reply}
pub use Rattle.scope_rules.specs.{Nests.label_reply, Nests.task_at_reply, Nests.task_inner_reply, Origin.Origin, Scopes.forked_in, Tasks.is_running, Tasks.is_waiting}
pub use Rattle.scope_rules.specs.declared.types.{answers.Cancelling.Cancelling, answers.Cancelling.TheVariants.Already, answers.Cause.Cause, answers.Stage.TheVariants.Never, capacity.Limits.Limits, capacity.TheConstants.FORK_LOAD}
pub use Rattle.scope_rules.specs.declared.types.{capacity.TheConstants.GREATEST_NUMBER, capacity.TheConstants.LEVEL_LIMIT, capacity.TheConstants.OPEN_LOAD, capacity.TheConstants.STEP_LOAD, checks.Failed.Failed}
pub use Rattle.scope_rules.specs.declared.types.{events.Binding.Binding, events.Event.Event, events.Options.Options, joiners.Policy.Policy, records.Forking.Forking, records.Opening.Opening, refusals.Refusal.Refusal}
pub use Rattle.scope_rules.specs.declared.types.{refusals.Refusal.TheVariants.Memory, refusals.Refusal.TheVariants.NoScope, refusals.Refusal.TheVariants.NoTask, refusals.Refusal.TheVariants.Retired, values.Label.Label}
pub use Rattle.scope_checks.specs.declared.event_replies.EventReply.{EventReply}
unfoldable pub use Rattle.scope_rules.specs.Checks.{checks, in_closing, is_innermost, known_actor, known_scope, known_task, owns, then_check}
unfoldable pub use Rattle.scope_rules.specs.{Bindings.bindings, Bindings.bound_as_opened, Bindings.bound_to, Bindings.holds_last, Bindings.stack, Cancels.cancelled_at, Cancels.cause, Cancels.deadline, Cancels.effective}
unfoldable pub use Rattle.scope_rules.specs.{Cancels.first_cancel, Cancels.is_cancelled, History.forking, History.moment, History.opening, Legal.Legal, Load.load, Nests.info, Nests.inner, Nests.outermost, Nests.scope_stage}
unfoldable pub use Rattle.scope_rules.specs.{Nests.tasks_of, Outcomes.outcome, Replies.base_of, Replies.binding_reply, Replies.fault_reply, Replies.outcome_check, Replies.result_reply, Scopes.closed, Scopes.closing}
unfoldable pub use Rattle.scope_rules.specs.{Scopes.innermost, Scopes.joined, Scopes.next_level, Table.reading_check, Table.retire_check, Table.row_check, Table.until_check, Tasks.counts, Tasks.ready, Tasks.settled, Tasks.stage}
unfoldable pub use Rattle.scope_rules.specs.{Tasks.stage_of, Tasks.state, Verdicts.verdict}
