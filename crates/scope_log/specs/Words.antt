-- What the definitions of this crate take from the libraries below and from the types of its code, from one place.
pub use Rattle.std.specs.List.{after_first, before_first, cons_option, filter, filter_map, find, flat_map, list_any, position, position_or_len, prefix_len, range_with_len, sum_by}
pub use Rattle.scope_rules.specs.Answers.{Readable, answer_of, entry_in, is_available, listing_by, value_in, values_by}
pub use Rattle.scope_rules.specs.Chains.{at_moment, earliest_on, effective_by, least_on, nearer, onward, outwards, sooner}
pub use Rattle.scope_rules.specs.Checks.{Checked, actor_check, owner_check, refuse_closing, refuse_full, refuse_if, refuse_joined, scope_check, task_check}
pub use Rattle.scope_rules.specs.History.{History, before, followed, forked_count, forking_of, is_fork, is_open, numbered_at, opened_count, opening_of, scope_numbers, scopes, task_numbers, tasks, tick_of}
pub use Rattle.scope_rules.specs.Scopes.{around, begins_closing, closing_at, ends, forked_in, have_one_opener, joins, unclosed_of}
pub use Rattle.scope_rules.specs.Tasks.{ending_at, ending_of, finishes, is_at, is_running, is_settled, is_stage, is_unsettled, is_waiting, rejects, starts, state_by_end, state_of}
pub use Rattle.scope_rules.specs.declared.types.events.Event.TheVariants.{BeginClose, Bind, Cancel, EndClose, Finish, Fork, Join, Move, Open, Reject, Start, Tick, Unbind}
pub use Rattle.scope_rules.specs.declared.types.refusals.Refusal.TheVariants.{AlreadyJoined, ClockBack, Closed, NoScope, NoTask, NotBound, NotJoined, NotOwner, NotReady, Retired, Structure, TooDeep, TooMany, WrongStage}
pub use Rattle.std.specs.{Fmt.HasWritten, Fmt.IsPlainFormatter, Fmt.decimal, Fmt.signed_decimal, Option.option_and_then, Option.option_map_or, Option.option_or, Prelude.Option, Prelude.option_map, Prelude.ℕ}
pub use Rattle.scope_rules.specs.{Bindings.bound_as_at, Bindings.first_stack, Bindings.opened_above, Bindings.stacked, Cancels.direct_kind, Cancels.kind_by, Cancels.move_of, Cancels.own_cancel, Completions.completes}
pub use Rattle.scope_rules.specs.{Completions.completion_of, Earliest.IsEarliest, Ends.EndValue, Joining.has_failed, Joining.has_succeeded, Legal.Accepts, Legal.IsWithin, Load.over_load, Load.over_scopes, Load.over_tasks}
pub use Rattle.scope_rules.specs.{Load.weight, Names.text_of, Nests.info_of, Nests.unclosed_after, Origin.Origin, Outcomes.first_read, Outcomes.joining_at, Outcomes.readable, Outcomes.readable_at, Outcomes.readable_of}
pub use Rattle.scope_rules.specs.{Table.check_of, Table.is_already, Table.owns_task, Table.task_joined, Texts.fault_text, Texts.kind_word, Texts.value_text, Verdicts.begins_for, Verdicts.covers_other, Verdicts.violating_at}
pub use Rattle.scope_rules.specs.declared.types.{answers.Cause.Cause, answers.CauseKind.CauseKind, answers.CauseKind.TheVariants.Close, answers.CauseKind.TheVariants.Deadline, answers.CauseKind.TheVariants.Joiner}
pub use Rattle.scope_rules.specs.declared.types.{answers.Counts.Counts, answers.Effective.TheVariants.Past, answers.Stage.Stage, answers.Stage.TheVariants.Finished, answers.Stage.TheVariants.Never}
pub use Rattle.scope_rules.specs.declared.types.{answers.Stage.TheVariants.Running, answers.Stage.TheVariants.Waiting, answers.State.State, answers.State.TheVariants.Unavailable, capacity.Limits.Limits}
pub use Rattle.scope_rules.specs.declared.types.{capacity.TheConstants.FORK_LOAD, capacity.TheConstants.GREATEST_NUMBER, capacity.TheConstants.LEVEL_LIMIT, capacity.TheConstants.LOAD_LIMIT, capacity.TheConstants.OPEN_LOAD}
pub use Rattle.scope_rules.specs.declared.types.{capacity.TheConstants.STEP_LOAD, events.Binding.Binding, events.Event.Event, events.Expiry.Expiry, events.Expiry.TheVariants.Fail, events.Expiry.TheVariants.MoveOn}
pub use Rattle.scope_rules.specs.declared.types.{events.Options.Options, joiners.Policy.Policy, joiners.Policy.TheVariants.All, joiners.Policy.TheVariants.Any, joiners.Policy.TheVariants.AwaitAll}
pub use Rattle.scope_rules.specs.declared.types.{joiners.Policy.TheVariants.AwaitOk, joiners.Policy.TheVariants.Until, joiners.Rule.TheVariants.FailuresAtLeast, joiners.Rule.TheVariants.SuccessesAtLeast}
pub use Rattle.scope_rules.specs.declared.types.{joiners.Rule.TheVariants.SumAtLeast, outcomes.Outcome.Outcome, records.Ending.Ending, records.FirstCancel.FirstCancel, records.Forking.Forking, records.Opening.Opening}
pub use Rattle.scope_rules.specs.declared.types.{records.OwnCancel.OwnCancel, refusals.Refusal.Refusal, values.Completion.Completion, values.Label.Label}
pub use Rattle.scope_log.specs.declared.entries.LogEntry.{LogEntry}
unfoldable pub use Rattle.scope_rules.specs.Cancels.{cancelled_at, cancelled_before, cause, counting_deadline, deadline, effective, first_cancel, is_cancelled, joiner_fires, overdue, own, own_at}
unfoldable pub use Rattle.scope_rules.specs.Checks.{checks, in_closing, is_innermost, known_actor, known_scope, known_task, owns, then_check}
unfoldable pub use Rattle.scope_rules.specs.Nests.{info, inner, label, next_unclosed, outermost, scope_stage, tasks_of}
unfoldable pub use Rattle.scope_rules.specs.Scopes.{closed, closing, covers, innermost, joined, level, next_level, outer, parent, surrounding}
unfoldable pub use Rattle.scope_rules.specs.Tasks.{counts, ending, finished, has_tasks, ready, rejected, settled, stage, stage_of, started, state}
unfoldable pub use Rattle.scope_rules.specs.{Bindings.bindings, Bindings.bindings_within, Bindings.bound_as_opened, Bindings.holds_last, Bindings.same_pairs, Bindings.stack, Chains.chain_by, Chains.first_cancel_by}
unfoldable pub use Rattle.scope_rules.specs.{Completions.completions, Completions.is_task_of, History.forking, History.moment, History.opening, Joining.fires, Legal.Legal, Load.load, Outcomes.joining, Outcomes.outcome}
unfoldable pub use Rattle.scope_rules.specs.{Outcomes.outcome_of, Owed.missing, Owed.owed, Replies.base_of, Search.earliest, Search.last_of, Search.latest, Search.some_below, Table.reading_check, Table.row_check}
unfoldable pub use Rattle.scope_rules.specs.{Table.until_check, Verdicts.covers_another, Verdicts.verdict, Verdicts.violated}
