-- What is told where a command is performed, and what that leaves: said of every event at once.
use Rattle.std.specs.Prelude.{◌&&◌, ◌==◌, ◌≡◌, ◌⊎◌, Bool, Err, Ok, Result, false, if◌then◌else◌, not, true}
use Rattle.scope_checks.specs.Words.{BeginClose, Cancel, Cancelling, Checked, EndClose, Event, EventReply, Fork, History, Limits, Memory, Open, Realm, Refusal, check_of, fork_reply, is_already, next_scope, verdict, weight}
use Rattle.scope_checks.specs.Words.{with_event}
use Rattle.scope_rules.specs.declared.types.answers.Cancelling.TheVariants as cancelling
use Rattle.scope_checks.specs.declared.event_replies.EventReply.TheVariants as reply

-- whether all was so already
abbrev pub noted : Bool → EventReply
noted already = if already then reply.Already else reply.Recorded

-- what is told where the event is accepted after h
abbrev pub event_reply_of : History → Event → EventReply
event_reply_of h (Open actor policy options) = reply.Scope (next_scope h)
event_reply_of h (Fork actor scope label) = reply.Task (fork_reply h scope)
event_reply_of h (Cancel scope) = noted (is_already h (Cancel scope))
event_reply_of h (BeginClose actor scope) = noted (is_already h (BeginClose actor scope))
event_reply_of h (EndClose actor scope) = reply.Closed (verdict h scope)
event_reply_of h _ = reply.Done

-- the event is recorded, if it is accepted, and costs load: it may be refused memory
abbrev pub wants_memory : History → Event → Bool
wants_memory h e = not (weight e == 0) && not (is_already h e)

-- what a command answered: if it was accepted, every check passed, and it answers the value; it is refused
-- what the check refuses, or memory if it wants that and every check passed
abbrev pub Answered : {A : Type 0} → Checked → A → Bool → Result A Refusal → Type 0
Answered check value wants (Ok answer) = (check ≡ Ok tt) × (answer ≡ value)
Answered check value wants (Err r) = (check ≡ Err r) ⊎ ((check ≡ Ok tt) × (r ≡ Memory) × (wants ≡ true))

-- what the command of the event answers after h
abbrev pub Performs : Limits → History → Event → Result EventReply Refusal → Type 0
Performs L h e result = Answered (check_of L h e) (event_reply_of h e) (wants_memory h e) result

-- the command that answered this recorded its event
abbrev pub records : Result EventReply Refusal → Bool
records (Ok reply.Already) = false
records (Ok answer) = true
records (Err refusal) = false

-- what such a command leaves: exactly its event more, or everything as it was
abbrev pub after_telling : Realm → Event → Result EventReply Refusal → Realm
after_telling realm e result = if records result then with_event realm e else realm

-- what was told of a cancel, or of the beginning of a close
abbrev pub noting : EventReply → Cancelling
noting reply.Already = cancelling.Already
noting answer = cancelling.Recorded
