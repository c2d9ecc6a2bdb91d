-- What the definitions of this crate take from the libraries below and from the types of its code, from one place.
pub use Rattle.cancel_tree.specs.Rows.{IsAdded, IsLatest, cancel_at, cancel_of, changed, deadline_of, effective_of, level_in, level_of, new_row, opened_of, outer_of, own_of, parent_of, row, with_deadline, with_own}
pub use Rattle.scope_rows.specs.Table.{HasScope, HasTask, IsNumbered, RowTable, place_of, scope_of, scope_row, task_row}
pub use Rattle.scope_rules.specs.Answers.{Readable, answer_at_expiry, answer_by, answer_of, is_available, listing_by, outcome_of_end, value_in, values_by}
pub use Rattle.scope_rules.specs.History.{History, before, followed, forked_count, forking_of, is_fork, is_open, opened_count, scopes, task_numbers, tasks, tick_of}
pub use Rattle.scope_rules.specs.Tasks.{ending_of, finishes, is_settled, rejects, starts, state_by_end, state_of}
pub use Rattle.scope_rules.specs.declared.types.events.Event.TheVariants.{BeginClose, Bind, Cancel, EndClose, Finish, Fork, Join, Move, Open, Reject, Start, Tick, Unbind}
pub use Rattle.std.specs.{Borrow.Fml, Borrow.MutBor, Borrow.follows_so, Borrow.sem, Cmp.nat_cmp_total, List.cons_option, List.filter, List.find, List.list_any, List.range_with_len, Option.IfSome, Option.IsSome}
pub use Rattle.std.specs.{Option.option_and_then, Option.option_map, Option.option_map_or, Option.option_or, Ordering.eq_by_cmp, Ordering.nat_cmp, Result.IfOk, Result.OnErr, Result.OnOk}
pub use Rattle.cancel_tree.specs.Order.{IsBefore, IsCancelOrder, IsInOrder}
pub use Rattle.cancel_tree.specs.declared.rows.ScopeNode.{ScopeNode}
pub use Rattle.deadline_core.specs.Moments.{AreInOrder, IsFirstDue, Moments, is_due, is_past}
pub use Rattle.join_rules.specs.{JoinerStanding.HasRoom, JoinerStanding.JoinerStanding, JoinerStanding.SameButRoom, JoinerStanding.SameJoiner, JoinerStanding.StandsFor, Totals.Totals}
pub use Rattle.scope_rows.specs.{Agreement.AreRowsOf, DeadlineTable.DeadlineTable, DeadlinesOf.AreDeadlinesOf, DeadlinesOf.moves_deadlines, Steps.below_of, Steps.walk_length, Wants.counts_of}
pub use Rattle.scope_rows.specs.declared.records.{ScopeRow.ScopeRow, TaskRow.TaskRow}
pub use Rattle.scope_rules.specs.{Cancels.direct_kind, Cancels.move_of, Cancels.own_cancel, Chains.IsInward, Chains.earliest_on, Chains.nearer, Chains.onward, Chains.outwards, Chains.shifted, Completions.completion_of}
pub use Rattle.scope_rules.specs.{Ends.EndValue, Joining.has_failed, Joining.has_succeeded, Legal.Accepts, Load.weight, Origin.Origin, Origin.the_start, Outcomes.first_read, Outcomes.readable, Outcomes.readable_at}
pub use Rattle.scope_rules.specs.{Outcomes.readable_of, Scopes.around, Scopes.begins_closing, Scopes.forked_in, Scopes.have_one_opener, Scopes.joins}
pub use Rattle.scope_rules.specs.declared.types.{answers.Cause.Cause, answers.CauseKind.CauseKind, answers.CauseKind.TheVariants.Call, answers.CauseKind.TheVariants.Close, answers.CauseKind.TheVariants.Deadline}
pub use Rattle.scope_rules.specs.declared.types.{answers.CauseKind.TheVariants.Joiner, answers.Counts.Counts, answers.Stage.Stage, answers.Stage.TheVariants.Finished, answers.Stage.TheVariants.Never}
pub use Rattle.scope_rules.specs.declared.types.{answers.Stage.TheVariants.Running, answers.Stage.TheVariants.Waiting, answers.State.State, answers.State.TheVariants.Unavailable, capacity.Limits.Limits}
pub use Rattle.scope_rules.specs.declared.types.{capacity.TheConstants.LEVEL_LIMIT, capacity.TheConstants.TASK_LIMIT, events.Event.Event, events.Options.Options, joiners.Policy.Policy, outcomes.Outcome.Outcome}
pub use Rattle.scope_rules.specs.declared.types.{outcomes.TaskValue.TaskValue, records.Ending.Ending, records.FirstCancel.FirstCancel, records.Forking.Forking, records.Opening.Opening, records.OwnCancel.OwnCancel}
pub use Rattle.scope_rules.specs.declared.types.{values.Completion.Completion, values.Label.Label}
pub use Rattle.scoped_env.specs.{Agreement.AreEnvsOf, Agreement.moves_envs, EnvTable.EnvTable, EnvTable.HasEnv}
pub use Rattle.scope_index.specs.declared.bare.BareOutcome.{BareOutcome}
unfoldable pub use Rattle.scope_rules.specs.Cancels.{cancelled_at, cause, counting_deadline, deadline, effective, first_cancel, is_cancelled, joiner_fires, overdue, own}
unfoldable pub use Rattle.scope_rules.specs.Scopes.{closed, closing, covers, innermost, joined, level, next_level, outer, surrounding}
unfoldable pub use Rattle.join_rules.specs.Totals.{counted, totals_of}
unfoldable pub use Rattle.scope_rules.specs.{Bindings.stack, Chains.chain_by, Chains.first_cancel_by, Completions.completions, Completions.is_task_of, History.forking, History.moment, History.opening, Joining.fires, Legal.Legal}
unfoldable pub use Rattle.scope_rules.specs.{Nests.tasks_of, Outcomes.joining, Outcomes.outcome, Outcomes.outcome_of, Replies.base_of, Search.earliest, Search.last_of, Search.some_below, Table.row_check, Tasks.counts}
unfoldable pub use Rattle.scope_rules.specs.{Tasks.finished, Tasks.ready, Tasks.settled, Tasks.stage, Tasks.state}
