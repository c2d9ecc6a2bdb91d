-- What the definitions of this crate take from the libraries below and from the types of its code, from one place.
pub use Rattle.scope_rules.specs.History.{HasSmallNumbers, History, before, followed, forked_count, is_fork, is_open, opened_count, opening_of, scopes, task_numbers, tasks}
pub use Rattle.scope_rules.specs.Scopes.{around, begins_closing, ends, forked_in, have_one_opener, joins, unclosed_of}
pub use Rattle.scope_rules.specs.Tasks.{ending_of, finishes, is_at, is_running, is_stage, is_waiting, rejects, starts, state_by_end, state_of}
pub use Rattle.scope_rules.specs.declared.types.events.Event.TheVariants.{BeginClose, Bind, Cancel, EndClose, Finish, Fork, Join, Move, Open, Reject, Start, Tick, Unbind}
pub use Rattle.std.specs.{Borrow.Fml, Borrow.Lends, Borrow.MutBor, Borrow.RattleType, Borrow.sem, List.range_with_len, Option.option_and_then, Option.option_map, Option.option_map_or, Option.option_or, Prelude.ℕ}
pub use Rattle.scope_rules.specs.{Cancels.move_of, Ends.EndValue, Legal.Accepts, Nests.unclosed_after, Origin.Origin, Outcomes.joining_at, Verdicts.begins_for}
pub use Rattle.scope_rules.specs.declared.types.{answers.Counts.Counts, answers.Stage.Stage, answers.Stage.TheVariants.Finished, answers.Stage.TheVariants.Never, answers.Stage.TheVariants.Running}
pub use Rattle.scope_rules.specs.declared.types.{answers.Stage.TheVariants.Waiting, answers.State.State, answers.State.TheVariants.Unavailable, capacity.Limits.Limits, capacity.TheConstants.LEVEL_LIMIT}
pub use Rattle.scope_rules.specs.declared.types.{capacity.TheConstants.TASK_LIMIT, events.Binding.Binding, events.Event.Event, events.Options.Options, joiners.Policy.Policy, records.Ending.Ending, records.Forking.Forking}
pub use Rattle.scope_rules.specs.declared.types.{records.Opening.Opening, values.Label.Label}
pub use Rattle.scope_rows.specs.declared.records.{ScopeRow.ScopeRow, TaskRow.TaskRow}
unfoldable pub use Rattle.scope_rules.specs.Scopes.{closed, closing, covers, innermost, joined, level, next_level, parent, surrounding}
unfoldable pub use Rattle.scope_rules.specs.{Bindings.stack, Cancels.deadline, Cancels.is_cancelled, Checks.is_innermost, Completions.is_task_of, History.forking, History.opening, Legal.Legal, Load.load, Nests.inner}
unfoldable pub use Rattle.scope_rules.specs.{Nests.next_unclosed, Nests.outermost, Outcomes.joining, Owed.missing, Owed.owed, Search.earliest, Search.last_of, Search.latest, Search.some_below, Table.row_check, Tasks.counts}
unfoldable pub use Rattle.scope_rules.specs.{Tasks.ending, Tasks.finished, Tasks.stage, Tasks.state, Verdicts.covers_another, Verdicts.violated}
