-- What a command is answered in a realm, and what it leaves of it.
use Rattle.std.specs.Prelude.{[], ◌&&◌, ◌++◌, ◌∷◌, ◌≡◌, ◌⊎◌, Bool, Err, List, Ok, Result, false, if◌then◌else◌, is_ok, not, ok_or, true}
use Rattle.script_words.specs.declared.commands.Command.{Command}
use Rattle.scope_script.specs.Terms.{Ask, Checked, Do, Event, EventReply, History, Memory, NotJoined, Origin, Query, Realm, Refusal, Reply, Retire, after_retiring, answering, base_of, binding_reply, cause, check_of, counts}
use Rattle.scope_script.specs.Terms.{effective, fault_reply, followed, fork_reply, is_already, next_scope, outcome, result_reply, retire_check, scope_check, stage, state, task_check, until_check, verdict, with_event}
use Rattle.scope_rules.specs.declared.types.events.Event.TheVariants as event
use Rattle.scope_checks.specs.declared.event_replies.EventReply.TheVariants as told
use Rattle.script_words.specs.declared.commands.Query.TheVariants as query
use Rattle.script_words.specs.declared.reply.Reply.TheVariants as reply

-- the reply to what was answered
abbrev pub replied : {A : Type 0} → (A → Reply) → Result A Refusal → Reply
replied tell (Ok x) = tell x
replied tell (Err r) = reply.Refused r

-- the check's refusal, or else this reply
abbrev pub refused_or : Checked → Reply → Reply
refused_or (Ok done) said = said
refused_or (Err r) said = reply.Refused r

-- the reply to an event that is recorded and tells no more
abbrev pub done_reply : Event → Reply
done_reply (event.Reject task) = reply.Rejected
done_reply (event.Start task) = reply.Started
done_reply (event.Finish task end) = reply.Finished
done_reply (event.Cancel scope) = reply.Cancelled
done_reply (event.Move scope deadline) = reply.Moved
done_reply (event.Tick now) = reply.Moment now
done_reply (event.Bind actor pair) = reply.Bound
done_reply (event.Unbind actor) = reply.Unbound
done_reply (event.BeginClose actor scope) = reply.Closing
done_reply other = reply.Already

-- what an event is told that is accepted on the history
abbrev pub event_reply_of : History → Event → Reply
event_reply_of h (event.Open actor policy options) = reply.Scope (next_scope h)
event_reply_of h (event.Fork actor scope label) = reply.Task (fork_reply h scope)
event_reply_of h (event.Join actor scope) = replied reply.Outcome (ok_or (outcome (followed h (event.Join actor scope)) scope) NotJoined)
event_reply_of h (event.EndClose actor scope) = reply.Closed (verdict h scope)
event_reply_of h e = done_reply e

-- the reply to an event that was told so by its realm; the realm tells nothing of what a join gave
abbrev pub reply_of : Event → EventReply → Reply
reply_of e (told.Scope scope) = reply.Scope scope
reply_of e (told.Task task) = reply.Task task
reply_of e told.Recorded = done_reply e
reply_of e told.Already = reply.Already
reply_of e (told.Closed verdict) = reply.Closed verdict
reply_of e told.Done = done_reply e

-- what an event is told that no check refuses
abbrev pub passed_reply : History → Event → Reply
passed_reply h e = if is_already h e then reply.Already else event_reply_of h e

-- no check refuses the event, and it is not so already
abbrev pub is_accepted : Realm → Event → Bool
is_accepted realm e = is_ok (check_of realm.limits realm.history e) && not (is_already realm.history e)

-- what a retirement is told
abbrev pub told_base : Origin → Reply
told_base b = reply.Retired b.scopes b.tasks

-- what a query is answered
unfoldable pub answer_to : History → Query → Reply
answer_to h (query.State task) = replied reply.State (answering (task_check h task) (state h task))
answer_to h (query.Stage task) = replied reply.Stage (answering (task_check h task) (stage h task))
answer_to h (query.Result actor task) = replied reply.Value (result_reply h actor task)
answer_to h (query.Fault actor task) = replied reply.Fault (fault_reply h actor task)
answer_to h (query.Cause scope) = replied reply.Cause (answering (scope_check h scope) (cause h scope))
answer_to h (query.Until scope) = replied reply.Until (answering (until_check h scope) (effective h scope))
answer_to h (query.Counts scope) = replied reply.Counts (answering (scope_check h scope) (counts h scope))
answer_to h (query.Get actor key) = replied reply.Value (binding_reply h actor key)

-- what the command is answered in the realm, were memory no matter
unfoldable pub reply_to : Realm → Command → Reply
reply_to realm (Do e) = refused_or (check_of realm.limits realm.history e) (passed_reply realm.history e)
reply_to realm (Retire actor) = replied told_base (answering (retire_check realm.history actor) (base_of realm.history))
reply_to realm (Ask asked) = answer_to realm.history asked

-- what the command leaves of the realm: an accepted event is added, and nothing else changes
unfoldable pub realm_after : Realm → Command → Realm
realm_after realm (Do e) = if is_accepted realm e then with_event realm e else realm
realm_after realm (Retire actor) = after_retiring realm (retire_check realm.history actor)
realm_after realm (Ask asked) = realm

-- the command joins a scope
abbrev pub is_join : Command → Bool
is_join (Do (event.Join actor scope)) = true
is_join _ = false

-- what a command leaves for which memory is refused: the realm as it was, but a join is recorded
abbrev pub realm_stopped : Realm → Command → Realm
realm_stopped realm command = if is_join command then realm_after realm command else realm

-- the command got its reply, and left the realm as it should
pub record Performs (old : Realm) (command : Command) (new : Realm) (said : Reply) : Type 0 where
  pub reply : said ≡ reply_to old command
  pub realm : new ≡ realm_after old command

-- memory was refused for the command
pub record Stops (old : Realm) (command : Command) (new : Realm) (said : Reply) : Type 0 where
  pub memory : said ≡ reply.Refused Memory
  pub stopped : new ≡ realm_stopped old command

-- the same, unless memory was refused
abbrev pub PerformsOrStops : Realm → Command → Realm → Reply → Type 0
PerformsOrStops old command new said = Stops old command new said ⊎ Performs old command new said

-- the run of a list of commands: each accepted one adds its event
unfoldable pub realm_after_all : Realm → List Command → Realm
realm_after_all realm [] = realm
realm_after_all realm (command ∷ commands) = realm_after_all (realm_after realm command) commands

-- a run of commands was ended by want of memory: those before one were performed, and this was not
pub record StopsAmong (old : Realm) (commands : List Command) (new : Realm) : Type 0 where
  pub before : List Command
  pub command : Command
  pub others : List Command
  pub whole : commands ≡ before ++ command ∷ others
  pub stopped : new ≡ realm_stopped (realm_after_all old before) command
