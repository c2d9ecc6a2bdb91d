-- What the definitions of this crate take from the libraries below and from the types of its code, from one place.
pub use Rattle.scope_log.specs.Folding.{NamesNone, Retirable, is_let_go, left, names_let_go, retired, unretired}
pub use Rattle.scope_rules.specs.Replies.{Answers, AnswersOrMemory, AnswersValue, Realm, after, after_retiring, fork_reply, next_scope, starting, with_event}
pub use Rattle.std.specs.{Io.KnownBytes.Appends, Io.KnownBytes.Consumes, Io.KnownBytes.IsAtEnd, Io.KnownBytes.Keeps, List.filter, List.flat_map, List.list_any}
pub use Rattle.memchr.specs.Find.{NoneBefore, Nowhere, Passes}
pub use Rattle.scope_book.specs.Books.{history_of, limits_of, realm_of}
pub use Rattle.scope_checks.specs.{Entering.Tells, EventReplies.after_telling, EventReplies.noted, EventReplies.wants_memory}
pub use Rattle.scope_checks.specs.declared.event_replies.EventReply.{EventReply}
pub use Rattle.scope_log.specs.RetiringLaws.{AnswersAlike, ScopeAlike, TaskAlike}
pub use Rattle.scope_rules.specs.{Checks.Checked, Checks.actor_check, Checks.scope_check, Checks.task_check, History.History, History.followed, History.scopes, History.tasks, Legal.Accepts, Origin.Origin, Origin.the_start}
pub use Rattle.scope_rules.specs.{Table.answering, Table.check_of, Table.checked_then, Table.fault_shown, Table.is_already, Table.value_shown}
pub use Rattle.scope_rules.specs.declared.types.{answers.ForkReply.TheVariants.Never, answers.ForkReply.TheVariants.Thread, capacity.Limits.Limits, events.Event.Event, outcomes.Outcome.Outcome, refusals.Refusal.Refusal}
pub use Rattle.scope_rules.specs.declared.types.{refusals.Refusal.TheVariants.Memory, refusals.Refusal.TheVariants.NotBound, refusals.Refusal.TheVariants.NotJoined, refusals.Refusal.TheVariants.TooMany}
pub use Rattle.script_words.specs.declared.{commands.Command.TheVariants.Ask, commands.Command.TheVariants.Do, commands.Command.TheVariants.Retire, commands.Line.Line, commands.Line.TheVariants.BadWord}
pub use Rattle.script_words.specs.declared.{commands.Line.TheVariants.Silent, commands.Query.Query, lines.TheConstants.LINE_LIMIT, reply.Reply.Reply, reply.Reply.TheVariants.Refused}
pub use Rattle.scope_script.specs.declared.session.{run.Mode.Mode, run.Mode.TheVariants.Quiet, run.Mode.TheVariants.Replies, script.Script.Script, tally.Tally.Tally}
unfoldable pub use Rattle.scope_rules.specs.{Bindings.bindings, Bindings.bound_to, Bindings.stack, Cancels.cause, Cancels.effective, Cancels.is_cancelled, History.moment, Legal.Legal, Outcomes.outcome, Replies.base_of}
unfoldable pub use Rattle.scope_rules.specs.{Replies.binding_reply, Replies.fault_reply, Replies.outcome_check, Replies.result_reply, Scopes.innermost, Search.last_of, Search.latest, Table.reading_check, Table.retire_check}
unfoldable pub use Rattle.scope_rules.specs.{Table.until_check, Tasks.counts, Tasks.stage, Tasks.state, Verdicts.verdict}
unfoldable pub use Rattle.script_words.specs.{Lines.line_said, ReplyText.reply_text}
