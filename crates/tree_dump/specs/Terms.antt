-- What the definitions of this crate take from the libraries below and from the types of its code, from one place.
pub use Rattle.std.specs.Prelude.{ℕ, List, None, Option, Some, codes, map, option_map, suc, zero}
pub use Rattle.scope_rules.specs.History.{History, before, followed, forked_count, is_fork, is_open, opened_count, scope_numbers, scopes, task_numbers, tasks}
pub use Rattle.serde.specs.Event.{Log, Logs, field_key, map_begins, map_ends, seq_begins, seq_ends}
pub use Rattle.serde_json.specs.Data.{Data, Items, Members, array, boolean, item, member, negative, no_items, no_members, null, number, object, string, unsigned}
pub use Rattle.tree_dump.specs.declared.waits.WaitCall.TheVariants.{Close, Join, NextDone, Permit, Receive, Ring, Send, Sleep, Stop}
pub use Rattle.std.specs.{Fmt.HasWritten, Fmt.IsPlainFormatter, Fmt.decimal, List.filter, List.flat_map, List.list_any, List.range_with_len, Option.option_and_then, Option.option_map_or, Option.option_or}
pub use Rattle.run_times.specs.Stamps.{end_times, fork_times, open_times, start_times}
pub use Rattle.scope_book.specs.Books.{history_of}
pub use Rattle.scope_checks.specs.Passes.{Passes}
pub use Rattle.scope_log.specs.{Folding.NamesNone, Folding.Retirable, Folding.retired, Folding.unretired, LogText.joiner_text}
pub use Rattle.scope_rules.specs.{Chains.onward, Checks.Checked, Checks.scope_check, Legal.Accepts, Names.text_of, Nests.info_of, Nests.info_reply, Nests.unclosed_after, Origin.Origin, Replies.Realm, Scopes.around}
pub use Rattle.scope_rules.specs.{Scopes.forked_in, Scopes.unclosed_of, Table.checked_then, Tasks.is_at, Tasks.is_finished, Tasks.is_running, Tasks.is_settled, Tasks.is_stage, Tasks.is_unsettled, Texts.fault_text, Texts.kind_word}
pub use Rattle.scope_rules.specs.{Texts.stage_word, Texts.state_word}
pub use Rattle.scope_rules.specs.declared.types.{answers.Cause.Cause, answers.CauseKind.CauseKind, answers.Counts.Counts, answers.Stage.Stage, answers.Stage.TheVariants.Finished, answers.Stage.TheVariants.Never}
pub use Rattle.scope_rules.specs.declared.types.{answers.Stage.TheVariants.Running, answers.Stage.TheVariants.Waiting, answers.State.State, answers.State.TheVariants.Failed, answers.State.TheVariants.Success}
pub use Rattle.scope_rules.specs.declared.types.{answers.State.TheVariants.Unavailable, capacity.Limits.Limits, capacity.TheConstants.LEVEL_LIMIT, events.Event.Event, events.Event.TheVariants.Fork, events.Event.TheVariants.Open}
pub use Rattle.scope_rules.specs.declared.types.{events.Expiry.Expiry, events.Expiry.TheVariants.Fail, events.Expiry.TheVariants.MoveOn, infos.ScopeInfo.ScopeInfo, infos.ScopeStage.ScopeStage, names.Name.Name}
pub use Rattle.scope_rules.specs.declared.types.{records.Forking.Forking, records.Opening.Opening, refusals.Refusal.Refusal, refusals.Refusal.TheVariants.NoScope, values.Label.Label, values.Value.TheVariants.Num}
pub use Rattle.scope_rules.specs.declared.types.{values.Value.TheVariants.Text}
pub use Rattle.scope_script.specs.Retiring.{RetiresFreely, fresh, without_retirements}
pub use Rattle.script_words.specs.declared.commands.Command.{Command}
pub use Rattle.serde.specs.declared.name.Case.TheVariants.{AsIs}
pub use Rattle.serde_json.specs.{Events.SendsItems, Events.SendsMembers, Events.SendsValue, Events.items_len, Events.members_len, View.items_of, Written.compact_text, Written.has_float, Written.items_have_float}
pub use Rattle.tree_dump.specs.declared.{ages.Ages.Ages, ages.TaskTimes.TaskTimes, kept.KeptAges.KeptAges, parts.Sums.Sums, parts.TreePart.TreePart, told.TaskTold.TaskTold, waits.CurrentWait.CurrentWait, waits.WaitCall.WaitCall}
pub use Rattle.tree_dump.specs.declared.{waits.Waits.Waits}
unfoldable pub use Rattle.scope_rules.specs.{Chains.chain_by, Completions.is_task_of, History.forking, History.moment, History.opening, Legal.Legal, Load.load, Nests.info, Nests.inner, Nests.label, Nests.next_unclosed}
unfoldable pub use Rattle.scope_rules.specs.{Nests.outermost, Nests.tasks_of, Scopes.closed, Scopes.innermost, Scopes.level, Scopes.parent, Scopes.surrounding, Search.earliest, Tasks.counts, Tasks.settled, Tasks.stage}
unfoldable pub use Rattle.scope_rules.specs.{Tasks.stage_of, Tasks.state}
unfoldable pub use Rattle.scope_script.specs.Replying.{realm_after_all}
