-- What the definitions of this crate take from the libraries below and from the types of its code, from one place.
pub use Rattle.std.specs.List.{filter, find, list_any, position, position_from, position_or_len}
pub use Rattle.std.specs.Prelude.{[], ℕ, ◌&&◌, ◌++◌, ◌+◌, ◌-◌, ◌<◌, ◌==◌, ◌||◌, ◌∷◌, ◌≡◌, ◌≤◌, Bool, Err, IfErr, IfSome, List, None, Ok, OnOk, Option, Result, Some, codes, drop, false, if◌then◌else◌}
pub use Rattle.std.specs.Prelude.{is_some, length, max, min, nat_le, nat_lt, not, option_map, slice_get, suc, take, true, unwrap_or, zero}
pub use Rattle.std.specs.{Char.is_ascii_digit, Option.option_and_then, Option.option_map_or, Option.option_or, Str.bytes_eq}
pub use Rattle.scope_checks.specs.Passes.{Passes}
pub use Rattle.scope_rules.specs.Checks.{Checked, Tried, actor_check, load_fits, not_closing, not_joined, owned, refusal_of, refuse_if, remade, scope_check, task_check}
pub use Rattle.scope_rules.specs.History.{History, before, forked_count, opened_count, scopes, task_numbers, tasks}
pub use Rattle.scope_rules.specs.Scopes.{begins_closing, closing_at, ends, have_one_opener, joins, unclosed_of}
pub use Rattle.scope_rules.specs.Table.{answering, check_of, checked_then, fault_shown, owns_task, reading_row, retire_row, task_joined, until_row, value_shown}
pub use Rattle.scope_rules.specs.{Load.over_scopes, Load.over_tasks, Load.weight, Nests.unclosed_after, Owed.begin_mark, Owed.marks}
pub use Rattle.scope_rules.specs.{Tasks.is_running, Tasks.is_settled, Tasks.is_waiting}
pub use Rattle.scope_rules.specs.declared.types.answers.Stage.TheVariants.{Finished, Never, Running, Waiting}
pub use Rattle.scope_rules.specs.declared.types.capacity.TheConstants.{FORK_LOAD, GREATEST_NUMBER, LEVEL_LIMIT, OPEN_LOAD, STEP_LOAD}
pub use Rattle.scope_rules.specs.declared.types.events.Event.TheVariants.{BeginClose, Bind, Cancel, EndClose, Finish, Fork, Join, Move, Open, Reject, Start, Tick, Unbind}
pub use Rattle.scope_rules.specs.declared.types.{answers.Stage.Stage, answers.State.State, capacity.Limits.Limits, checks.Failed.Failed, events.Event.Event, joiners.Policy.TheVariants.AwaitOk}
pub use Rattle.scope_rules.specs.declared.types.{names.Name.Name, records.Forking.Forking, records.Opening.Opening, refusals.Refusal.Refusal, values.Value.Value}
pub use Rattle.script_words.specs.{Fields.first_and_rest, Fields.is_space, Lines.begins_comment, Lines.line_of, Numbers.small_said, Openings.deadline_said, Openings.due_said, Openings.flag_said}
pub use Rattle.script_words.specs.{Fields.is_empty, Forms.Maker, Forms.made, Forms.made_of, Forms.slots, Openings.found_or, Rows.Chosen, Rows.OfSlot, Rows.Said, Rows.field_said, Rows.left_out, Rows.option_said, Steps.◌>>=◌}
pub use Rattle.script_words.specs.declared.{commands.Command.Command, commands.Line.Line, commands.Line.TheVariants.BadWord, commands.Line.TheVariants.Silent, commands.Query.Query}
pub use Rattle.script_words.specs.declared.{keywords.Keyword.Keyword, lines.TheConstants.LINE_LIMIT, rows.FieldKind.FieldKind, rows.OpenWord.OpenWord, rows.Slot.Slot}
pub use Rattle.refusal_reasons.specs.declared.{faults.WordFault.WordFault, line_places.Place.Place}
pub use Rattle.refusal_reasons.specs.declared.{reasons.ActorObstacle.ActorObstacle, reasons.Reason.Reason, reasons.RoomObstacle.RoomObstacle, reasons.ScopeObstacle.ScopeObstacle}
pub use Rattle.refusal_reasons.specs.declared.{reasons.TaskObstacle.TaskObstacle}
unfoldable pub use Rattle.scope_rules.specs.Bindings.{bindings, bound_as_opened, bound_to, holds_last, stack}
unfoldable pub use Rattle.scope_rules.specs.Checks.{checks, in_closing, is_innermost, known_actor, known_scope, known_task, owns, then_check}
unfoldable pub use Rattle.scope_rules.specs.Scopes.{closed, closing, covers, innermost, joined, next_level}
unfoldable pub use Rattle.scope_rules.specs.{Cancels.is_cancelled, Completions.is_task_of, History.forking, History.moment, History.opening, Legal.Legal, Load.load, Nests.inner, Nests.next_unclosed}
unfoldable pub use Rattle.scope_rules.specs.{Nests.outermost, Nests.tasks_of, Replies.binding_reply, Replies.fault_reply, Replies.result_reply, Search.earliest, Search.some_below, Table.reading_check}
unfoldable pub use Rattle.scope_rules.specs.{Table.retire_check, Table.row_check, Table.until_check, Tasks.ready, Tasks.settled, Tasks.stage, Tasks.state}
unfoldable pub use Rattle.script_words.specs.{Fields.fields, Fields.just_one, Fields.without_spaces, Forms.form_said, Forms.keyword_said, Numbers.first_said, Openings.next_said}
unfoldable pub use Rattle.script_words.specs.{Lines.command_said, Lines.fields_said, Lines.line_said}
