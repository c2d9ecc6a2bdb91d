-- What the definitions of this crate take from the libraries below and from the types of its code, from one place.
pub use Rattle.std.specs.Prelude.{ℕ, Bool, List, None, Option, Some, count_by, nat_le}
pub use Rattle.scope_log.specs.Log.{entries_at, entry_at, entry_of, is_of, mark_at, said, said_with}
pub use Rattle.scope_rules.specs.History.{HasSmallNumbers, History, before, followed, is_fork, is_open, opened_count, scopes, task_numbers, tasks}
pub use Rattle.scope_rules.specs.declared.types.events.Event.TheVariants.{BeginClose, Cancel, EndClose, Finish, Fork, Join, Move, Open, Reject, Start}
pub use Rattle.std.specs.{List.cons_option, List.filter, List.filter_map, List.flat_map, List.insert, List.range_with_len, Option.option_and_then, Option.option_map_or}
pub use Rattle.scope_log.specs.{LocalForms.task_forked, LogLaws.entries_from}
pub use Rattle.scope_log.specs.declared.entries.LogEntry.{LogEntry}
pub use Rattle.scope_rows.specs.{Steps.altered, Table.IsNumbered, Table.place_of}
pub use Rattle.scope_rules.specs.{Legal.Accepts, Legal.IsWithin, Load.weight, Origin.Origin, Origin.the_start, Owed.begin_mark, Owed.end_mark, Owed.finish_mark, Owed.join_mark, Owed.take_mark, Replies.AnswersOrMemory}
pub use Rattle.scope_rules.specs.{Replies.Realm, Replies.base_check, Replies.starting, Replies.with_event}
pub use Rattle.scope_rules.specs.declared.types.{answers.Cause.Cause, capacity.Limits.Limits, capacity.TheConstants.GREATEST_NUMBER, capacity.TheConstants.LOAD_LIMIT, events.Event.Event, events.Options.Options}
pub use Rattle.scope_rules.specs.declared.types.{joiners.Policy.Policy, names.Name.Name, records.Forking.Forking, records.Opening.Opening, refusals.Refusal.Refusal, values.Label.Label, values.Value.TheVariants.Num}
pub use Rattle.scope_rules.specs.declared.types.{values.Value.TheVariants.Text}
pub use Rattle.scope_journal.specs.declared.codes.Code.{Code}
unfoldable pub use Rattle.scope_log.specs.{LocalForms.tasks_in, Log.entries}
unfoldable pub use Rattle.scope_rules.specs.{Cancels.cancelled_at, Cancels.cause, Cancels.first_cancel, Completions.is_task_of, History.forking, History.opening, Legal.Legal, Load.load, Owed.missing, Owed.owed, Replies.base_of}
