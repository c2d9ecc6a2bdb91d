-- What the definitions of this crate take from the libraries below and from the types of its code, from one place.
pub use Rattle.std.specs.List.{cons_option, filter, filter_map, flat_map, list_all, list_any, range_with_len, sum_by}
pub use Rattle.std.specs.Option.{option_and_then, option_map_or, option_or}
pub use Rattle.std.specs.Prelude.{[], ℕ, ◌*◌, ◌++◌, ◌+◌, ◌<◌, ◌==◌, ◌^◌, ◌≡◌, ◌≤ℤ◌, ◌≤◌, IfOk, IfSome, List, MatchResult, None, Ok, OnOk, Some, count_by, if◌then◌else◌, is_some, length, neg_ℤ, pos}
pub use Rattle.std.specs.Prelude.{slice_get, take}
pub use Rattle.scope_checks.specs.{Entering.Enters, Entering.EntersOrMemory, Entering.Notes, Entering.NotesOrMemory, Entering.Retires, Ruled.IsRuled}
pub use Rattle.scope_journal.specs.JournalKeeps.{JournalTable, realm_given}
pub use Rattle.scope_log.specs.Log.{entries_at, entry_at, is_of, mark_of}
pub use Rattle.scope_rules.specs.Bindings.{bound_as_at, differ_at, first_stack, opened_above, same_pair, value_under}
pub use Rattle.scope_rules.specs.History.{HasSmallNumbers, History, before, forked_count, forking_of, is_fork, is_open, numbered_at, opened_count, opening_of, scope_numbers, scopes, task_numbers}
pub use Rattle.scope_rules.specs.History.{tasks, tick_of}
pub use Rattle.scope_rules.specs.Nests.{info_reply, inner_reply, label_reply, task_at_reply, task_inner_reply, unclosed_after}
pub use Rattle.scope_rules.specs.Replies.{AnswersOrMemory, AnswersValue, Realm, base_check, fork_reply, next_scope, starting, with_event}
pub use Rattle.scope_rules.specs.Scopes.{around, begins_closing, closing_at, forked_in, have_one_opener, unclosed_of}
pub use Rattle.scope_rules.specs.Tasks.{ending_at, ending_of, is_at, is_finished, is_never, is_running, is_settled, is_stage, is_unsettled, is_waiting, state_of}
pub use Rattle.scope_rules.specs.{Answers.entry_in, Answers.listing_by, Answers.value_in, Answers.values_by, Cancels.direct_kind, Cancels.kind_by, Cancels.move_of, Cancels.own_cancel}
pub use Rattle.scope_rules.specs.{Chains.earliest_on, Chains.least_on, Chains.nearer, Chains.outwards, Chains.sooner, Checks.Checked, Checks.scope_check, Checks.task_check, ClosingLaws.IsWhole}
pub use Rattle.scope_rules.specs.{Completions.completes, Completions.completion_of, Completions.passes_at, Joining.has_failed, Joining.has_succeeded, Joining.summand_of_end, Legal.Accepts}
pub use Rattle.scope_rules.specs.{Legal.IsWithin, Load.weight, Origin.Origin, Origin.the_start, Outcomes.first_read, Outcomes.joining_at, Outcomes.readable_at, Outcomes.readable_of}
pub use Rattle.scope_rules.specs.{StackSteps.height_after, StackSteps.pair_after, Table.answering, Table.check_of, Verdicts.begins_for, Verdicts.covers_other, Verdicts.violating_at}
pub use Rattle.scope_rules.specs.declared.types.events.Event.TheVariants.{Fork, Join, Open}
pub use Rattle.scope_rules.specs.declared.types.{capacity.Limits.Limits, capacity.TheConstants.LOAD_LIMIT, events.Event.Event, refusals.Refusal.Refusal}
unfoldable pub use Rattle.scope_log.specs.{Log.entries, Log.log, Previews.preview}
unfoldable pub use Rattle.scope_rules.specs.Bindings.{bindings, bindings_within, bound_as_opened, bound_to, holds_last, same_pairs, stack}
unfoldable pub use Rattle.scope_rules.specs.Cancels.{cancelled_at, cancelled_before, cause, counting_deadline, deadline, effective, first_cancel, is_cancelled, joiner_fires, overdue, own, own_at}
unfoldable pub use Rattle.scope_rules.specs.Scopes.{closed, closing, covers, innermost, joined, next_level, outer, parent, surrounding}
unfoldable pub use Rattle.scope_rules.specs.Tasks.{counts, ending, finished, has_tasks, rejected, settled, stage, stage_of, started, state}
unfoldable pub use Rattle.scope_rules.specs.{Completions.completions, Completions.is_task_of, History.forking, History.moment, History.opening, Joining.fires, Joining.meets, Joining.total_of}
unfoldable pub use Rattle.scope_rules.specs.{Legal.Legal, Load.load, Nests.inner, Nests.next_unclosed, Nests.outermost, Nests.tasks_of, Outcomes.joining, Outcomes.outcome, Outcomes.outcome_of}
unfoldable pub use Rattle.scope_rules.specs.{Replies.base_of, Replies.binding_reply, Replies.fault_reply, Replies.outcome_check, Replies.result_reply, Search.earliest, Search.last_of, Search.latest}
unfoldable pub use Rattle.scope_rules.specs.{Search.some_below, Table.row_check, Table.until_check, Verdicts.covers_another, Verdicts.verdict, Verdicts.violated}
