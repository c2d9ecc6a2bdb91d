-- What the definitions of this crate take from the libraries below and from the types of its code, from one place.
pub use Rattle.std.specs.Prelude.{ℕ, ℤ, Err, IsNone, IsSome, List, None, Ok, Option, Some, option_map}
pub use Rattle.std.specs.Sync.RawAtomic.{Shift, along, always, asks, back, found, if_none, rests, word}
pub use Rattle.scope_rules.specs.Replies.{Answers, AnswersOrMemory, AnswersValue, Realm, after, starting, with_event}
pub use Rattle.std.specs.{Coded.coded_option, Global.Global, Option.option_and_then, Option.option_map_or}
pub use Rattle.std_heap.specs.contracts.GlobalAllocator.TheImpl.{dict, ghosts}
pub use Rattle.arrayvec.specs.declared.array_string.ArrayString.{ArrayString}
pub use Rattle.scope_checks.specs.{Entering.Retires, Entering.Tells, EventReplies.after_telling}
pub use Rattle.scope_checks.specs.declared.event_replies.EventReply.{EventReply}
pub use Rattle.scope_index.specs.{Bare.bare_of, CancelsOf.IsCancelOrderOf, Coming.IsNextDeadline, Coming.NoDeadlineComes}
pub use Rattle.scope_index.specs.declared.bare.BareOutcome.{BareOutcome}
pub use Rattle.scope_rules.specs.{Capacity.IsAllowed, Checks.Checked, Checks.scope_check, Checks.task_check, History.History, History.followed, History.scopes, History.tasks, Names.text_of, Nests.task_at_reply, Origin.Origin}
pub use Rattle.scope_rules.specs.{Origin.the_start, Refusals.refusal_number, Scopes.forked_in, Scopes.joins, Table.answering, Table.check_of}
pub use Rattle.scope_rules.specs.declared.types.{answers.Cause.Cause, answers.CauseKind.CauseKind, answers.Counts.Counts, answers.Effective.Effective, answers.Effective.TheVariants.At, answers.ForkReply.ForkReply}
pub use Rattle.scope_rules.specs.declared.types.{answers.Stage.Stage, answers.State.State, answers.Verdict.Verdict, capacity.Limits.Limits, events.Event.Event, events.Event.TheVariants.Join, events.Expiry.TheVariants.Fail}
pub use Rattle.scope_rules.specs.declared.types.{events.Expiry.TheVariants.MoveOn, events.Options.Options, joiners.Policy.Policy, joiners.Policy.TheVariants.All, joiners.Policy.TheVariants.Any, joiners.Policy.TheVariants.AwaitAll}
pub use Rattle.scope_rules.specs.declared.types.{joiners.Policy.TheVariants.AwaitOk, joiners.Policy.TheVariants.Until, joiners.Rule.TheVariants.FailuresAtLeast, joiners.Rule.TheVariants.SuccessesAtLeast}
pub use Rattle.scope_rules.specs.declared.types.{joiners.Rule.TheVariants.SumAtLeast, outcomes.Outcome.Outcome, outcomes.TaskState.TaskState, outcomes.TaskValue.TaskValue, refusals.Refusal.Refusal}
pub use Rattle.scope_rules.specs.declared.types.{refusals.Refusal.TheVariants.ClockBack, refusals.Refusal.TheVariants.Memory, values.Fault.Fault, values.Value.TheVariants.Num, values.Value.TheVariants.Text, values.Value.Value}
pub use Rattle.scope_script.specs.Replying.{Performs, PerformsOrStops, is_join, passed_reply, refused_or}
pub use Rattle.script_journal.specs.{Script.script_text, Timed.timed_text}
pub use Rattle.script_words.specs.declared.{commands.Command.Command, commands.Command.TheVariants.Ask, commands.Command.TheVariants.Do, commands.Command.TheVariants.Retire, commands.Line.Line, commands.Line.TheVariants.BadWord}
pub use Rattle.script_words.specs.declared.{commands.Line.TheVariants.Silent, commands.Query.Query, reply.Reply.Reply}
pub use Rattle.balkreyn_c.specs.declared.{endings.News.News, line.Performed.Performed, lists.OutcomeTask.OutcomeTask, queries.TaskCounts.TaskCounts, timed.TimedRealm.TimedRealm}
unfoldable pub use Rattle.scope_rules.specs.{Cancels.cause, Cancels.effective, Checks.checks, Checks.then_check, History.moment, Outcomes.outcome, Replies.binding_reply, Replies.fault_reply, Replies.outcome_check}
unfoldable pub use Rattle.scope_rules.specs.{Replies.result_reply, Scopes.joined, Scopes.surrounding, Table.row_check, Table.until_check, Tasks.counts, Tasks.settled, Tasks.stage, Tasks.state}
unfoldable pub use Rattle.scope_script.specs.{Replying.answer_to, Replying.realm_after, Replying.reply_to, Sessions.line_reply, Sessions.realm_after_line}
unfoldable pub use Rattle.script_words.specs.{Lines.line_said, ReplyText.reply_text, Words.name_said}
unfoldable pub use Rattle.tree_dump.specs.Tree.{dump_text}
