-- What the definitions of this crate take from the libraries below and from the types of its code, from one place.
pub use Rattle.scope_log.specs.LogText.{end_line, joiner_text, options_text}
pub use Rattle.scope_rules.specs.Checks.{Checked, actor_check, owner_check, refuse_closing, refuse_full, refuse_if, refuse_joined, scope_check, task_check}
pub use Rattle.scope_rules.specs.History.{History, before, followed, forked_count, forking_of, is_fork, is_open, numbered_at, opened_count, opening_of, task_numbers, tick_of}
pub use Rattle.scope_rules.specs.Scopes.{around, begins_closing, closing_at, ends, forked_in, have_one_opener, joins, unclosed_of}
pub use Rattle.scope_rules.specs.declared.types.events.Event.TheVariants.{BeginClose, Bind, Cancel, EndClose, Finish, Fork, Join, Move, Open, Reject, Start, Tick, Unbind}
pub use Rattle.script_words.specs.Rows.{IsMoment, IsPolicy, IsSmall, IsValue, option_words, policy_word}
pub use Rattle.script_words.specs.{Spelling.spelled, declared.rows.OpenWord.OpenWord}
pub use Rattle.std.specs.{Fmt.HasWritten, Fmt.IsPlainFormatter, Fmt.decimal, List.cons_option, List.filter_map, List.flat_map, List.join_with_byte, List.list_any, List.range_with_len, Option.option_and_then, Option.option_map_or}
pub use Rattle.scope_rules.specs.Ends.{EndValue}
pub use Rattle.std.specs.{Option.option_or, Prelude.Some}
pub use Rattle.scope_checks.specs.Ruled.{IsRuled}
pub use Rattle.scope_log.specs.Dues.{without_due, without_dues}
pub use Rattle.scope_rules.specs.{Bindings.first_stack, Bindings.opened_above, Bindings.stacked, Cancels.direct_kind, Cancels.kind_by, Cancels.move_of, Cancels.own_cancel, Chains.shifted, Completions.completes}
pub use Rattle.scope_rules.specs.{Completions.completion_of, Joining.has_failed, Joining.has_succeeded, Joining.summand_of_end, Legal.Accepts, Load.over_load, Load.over_scopes, Load.over_tasks, Load.weight, Names.text_of}
pub use Rattle.scope_rules.specs.{Origin.Origin, Origin.the_start, Replies.Realm, Replies.starting, Table.check_of, Table.is_already, Tasks.finishes, Tasks.is_running, Tasks.is_unsettled, Tasks.rejects, Tasks.starts}
pub use Rattle.scope_rules.specs.{Texts.value_text}
pub use Rattle.scope_rules.specs.declared.types.{answers.CauseKind.CauseKind, answers.CauseKind.TheVariants.Close, answers.CauseKind.TheVariants.Deadline, answers.CauseKind.TheVariants.Joiner, answers.Stage.TheVariants.Never}
pub use Rattle.scope_rules.specs.declared.types.{capacity.Limits.Limits, capacity.TheConstants.GREATEST_NUMBER, events.Binding.Binding, events.Event.Event, events.Expiry.Expiry, events.Expiry.TheVariants.Fail, events.Options.Options, values.Label.Label}
pub use Rattle.scope_rules.specs.declared.types.{events.Expiry.TheVariants.MoveOn, joiners.Policy.Policy, joiners.Policy.TheVariants.All, joiners.Policy.TheVariants.Any, joiners.Policy.TheVariants.AwaitAll}
pub use Rattle.scope_rules.specs.declared.types.{joiners.Policy.TheVariants.AwaitOk, joiners.Policy.TheVariants.Until, joiners.Rule.TheVariants.FailuresAtLeast, joiners.Rule.TheVariants.SuccessesAtLeast}
pub use Rattle.scope_rules.specs.declared.types.{joiners.Rule.TheVariants.SumAtLeast, outcomes.Outcome.Outcome, records.FirstCancel.FirstCancel, records.Forking.Forking, records.Opening.Opening, records.OwnCancel.OwnCancel}
pub use Rattle.scope_rules.specs.declared.types.{refusals.Refusal.Refusal, refusals.Refusal.TheVariants.NotJoined, values.Completion.Completion, values.Value.TheVariants.Num, values.Value.TheVariants.Text, values.Value.Value}
pub use Rattle.scope_script.specs.{Replying.event_reply_of, Replying.replied, Tallies.is_refused, Tallies.no_refusals, Tallies.with_cut}
pub use Rattle.scope_script.specs.declared.session.tally.Tally.{Tally}
pub use Rattle.script_words.specs.Printable.{is_printable}
pub use Rattle.script_words.specs.declared.commands.{Command.TheVariants.Do, Command.TheVariants.Retire, Line.TheVariants.Command}
unfoldable pub use Rattle.scope_rules.specs.Cancels.{cancelled_at, cancelled_before, deadline, first_cancel, is_cancelled, joiner_fires, overdue, own, own_at}
unfoldable pub use Rattle.scope_rules.specs.Checks.{checks, in_closing, is_innermost, known_actor, known_scope, known_task, owns, then_check}
unfoldable pub use Rattle.scope_rules.specs.Scopes.{closed, closing, covers, innermost, joined, level, next_level, outer, parent, surrounding}
unfoldable pub use Rattle.scope_rules.specs.Tasks.{finished, ready, rejected, settled, stage, stage_of, started}
unfoldable pub use Rattle.std.specs.Fmt.{digits}
unfoldable pub use Rattle.scope_rules.specs.{Bindings.bound_as_opened, Bindings.holds_last, Bindings.stack, Chains.chain_by, Completions.completions, Completions.is_task_of, History.forking, History.moment, History.opening}
unfoldable pub use Rattle.scope_rules.specs.{Joining.fires, Joining.meets, Joining.total_of, Legal.Legal, Load.load, Outcomes.outcome, Replies.base_of, Replies.outcome_check, Search.earliest, Search.last_of, Search.latest}
unfoldable pub use Rattle.scope_rules.specs.{Table.retire_check, Table.row_check}
unfoldable pub use Rattle.scope_script.specs.{Cutting.begun_line, Cutting.ended_lines, Replying.realm_after, Replying.reply_to, Sessions.realm_after_line, Sessions.realm_after_lines, Sessions.realm_of_script}
unfoldable pub use Rattle.scope_script.specs.{Tallies.tally_after_line, Tallies.tally_after_lines, Tallies.tally_of_script}
unfoldable pub use Rattle.script_words.specs.{Lines.line_said, Spelling.HasWords, Spelling.words_of}
