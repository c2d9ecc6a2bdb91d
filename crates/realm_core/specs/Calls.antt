-- What a call on a token did to what the token has seen, and what it answered: the public words of a
-- realm's calls.
use Rattle.std.specs.Prelude.{ℕ, ◌≡◌, ◌⊎◌, Err, Ok, Result, true}
use Rattle.realm_core.specs.Words.{Adds, Already, Asked, Cancelling, Checked, Event, EventReply, Happened, History, Limits, Looks, Memory, OwnerValue, RealmStep, Recorded, Refusal, Retirement, TicketOf, TicketValue, TokenOf}
use Rattle.realm_core.specs.Words.{asked, check_of, event_reply_of, history_of, is_already, noting, retire_check, step_by, wants_memory}
use Rattle.scope_checks.specs.declared.event_replies.EventReply.TheVariants as told

-- what was seen with a token, as the history that it leaves
abbrev pub history_seen : OwnerValue → History
history_seen token = history_of token.seen

-- what a call may change of a token, and of a ticket: what it has seen
abbrev pub SeesMore : OwnerValue → OwnerValue → Type 0
SeesMore old new = new ≡ record old { seen = new.seen }

abbrev pub TicketSeesMore : TicketValue → TicketValue → Type 0
TicketSeesMore old new = new ≡ record old { seen = new.seen }

-- it added nothing: the token has seen what it had seen, and steps of others
abbrev pub HasLooked : OwnerValue → OwnerValue → Type 0
HasLooked old new = Looks (TokenOf old.actor) old.limits old.seen new.seen

-- it added exactly the step, if it was accepted
abbrev pub Added : OwnerValue → OwnerValue → RealmStep → Type 0
Added old new x = Adds (TokenOf old.actor) old.limits old.seen x new.seen

-- a call on a token that added nothing, and changed nothing else of it
abbrev pub Looked : OwnerValue → OwnerValue → Type 0
Looked old new = SeesMore old new × HasLooked old new

-- such a call, of which this is so by what the token has seen then
abbrev pub Reads : OwnerValue → OwnerValue → (History → Type 0) → Type 0
Reads old new said = Looked old new × said (history_seen new)

-- the same of a ticket
abbrev pub TicketLooked : TicketValue → TicketValue → Type 0
TicketLooked old new = TicketSeesMore old new × Looks (TicketOf old.task) old.limits old.seen new.seen

abbrev pub TicketAdded : TicketValue → TicketValue → RealmStep → Type 0
TicketAdded old new x = TicketSeesMore old new × Adds (TicketOf old.task) old.limits old.seen x new.seen

-- what the rules refuse the step for, taken by the actor after h
abbrev pub step_check : Limits → ℕ → RealmStep → History → Checked
step_check L a (Happened e) h = check_of L h e
step_check L a (Asked actor q) h = check_of L h (asked q)
step_check L a Retirement h = retire_check h a

-- the call added exactly the step, and answered what the rules reply on the steps before it
pub record Accepted {A : Type 0} (old new : OwnerValue) (x : RealmStep) (reply : History → A) (answer : A) : Type 0 where
  pub adds : Added old new x
  pub replied : answer ≡ reply (history_of adds.there)

-- the call added nothing, and refused what the rules refuse on what is seen by then
pub record Refused (old new : OwnerValue) (x : RealmStep) (refusal : Refusal) : Type 0 where
  pub looks : HasLooked old new
  pub by : step_check old.limits old.actor x (history_seen new) ≡ Err refusal

-- the call added nothing: the step would be accepted on what is seen by then, but memory was refused
pub record OutOfMemory (old new : OwnerValue) (x : RealmStep) (refusal : Refusal) : Type 0 where
  pub looks : HasLooked old new
  pub passed : step_check old.limits old.actor x (history_seen new) ≡ Ok tt
  pub memory : refusal ≡ Memory

-- the call added nothing, since all is so already on what is seen by then
pub record FoundSo (old new : OwnerValue) (e : Event) : Type 0 where
  pub looks : HasLooked old new
  pub passed : check_of old.limits (history_seen new) e ≡ Ok tt
  pub already : is_already (history_seen new) e ≡ true

-- what a command did that takes no memory
abbrev pub Did : {A : Type 0} → OwnerValue → OwnerValue → RealmStep → (History → A) → Result A Refusal → Type 0
Did old new x reply (Ok answer) = Accepted old new x reply answer
Did old new x reply (Err refusal) = Refused old new x refusal

-- and what one did that takes memory
abbrev pub DidOrMemory : {A : Type 0} → OwnerValue → OwnerValue → RealmStep → (History → A) → Result A Refusal → Type 0
DidOrMemory old new x reply (Ok answer) = Accepted old new x reply answer
DidOrMemory old new x reply (Err refusal) = Refused old new x refusal ⊎ OutOfMemory old new x refusal

-- what a command did that takes none, and may find that all is so already
abbrev pub DidRecord : OwnerValue → OwnerValue → Event → Result Cancelling Refusal → Type 0
DidRecord old new e (Ok Recorded) = Added old new (step_by old.actor e)
DidRecord old new e (Ok Already) = FoundSo old new e
DidRecord old new e (Err refusal) = Refused old new (step_by old.actor e) refusal

-- the same of one that takes memory
abbrev pub DidRecordOrMemory : OwnerValue → OwnerValue → Event → Result Cancelling Refusal → Type 0
DidRecordOrMemory old new e (Ok Recorded) = Added old new (step_by old.actor e)
DidRecordOrMemory old new e (Ok Already) = FoundSo old new e
DidRecordOrMemory old new e (Err refusal) = Refused old new (step_by old.actor e) refusal ⊎ OutOfMemory old new (step_by old.actor e) refusal

-- what the command of the event did with the actor's token, and what it answered: said of every event at once
abbrev pub DidPerform : OwnerValue → OwnerValue → Event → Result EventReply Refusal → Type 0
DidPerform old new e (Ok told.Already) = FoundSo old new e
DidPerform old new e (Ok answer) = Accepted old new (step_by old.actor e) (λ h. event_reply_of h e) answer
DidPerform old new e (Err refusal) = Refused old new (step_by old.actor e) refusal ⊎ (OutOfMemory old new (step_by old.actor e) refusal × (wants_memory (history_seen new) e ≡ true))

-- ---- the words of the calls' clauses: what was done, and that nothing else of the token has changed

abbrev pub Does : {A : Type 0} → OwnerValue → OwnerValue → RealmStep → (History → A) → Result A Refusal → Type 0
Does old new x reply result = SeesMore old new × Did old new x reply result

abbrev pub DoesOrMemory : {A : Type 0} → OwnerValue → OwnerValue → RealmStep → (History → A) → Result A Refusal → Type 0
DoesOrMemory old new x reply result = SeesMore old new × DidOrMemory old new x reply result

abbrev pub Records : OwnerValue → OwnerValue → Event → Result Cancelling Refusal → Type 0
Records old new e result = SeesMore old new × DidRecord old new e result

abbrev pub RecordsOrMemory : OwnerValue → OwnerValue → Event → Result Cancelling Refusal → Type 0
RecordsOrMemory old new e result = SeesMore old new × DidRecordOrMemory old new e result

abbrev pub Performed : OwnerValue → OwnerValue → Event → Result EventReply Refusal → Type 0
Performed old new e result = SeesMore old new × DidPerform old new e result

-- what was answered, if there is no more to say than that it was done
abbrev pub done : Result EventReply Refusal → Result (Unit {0}) Refusal
done (Ok answer) = Ok tt
done (Err refusal) = Err refusal

-- what was answered to a cancel, or to the beginning of a close
abbrev pub noted : Result EventReply Refusal → Result Cancelling Refusal
noted (Ok answer) = Ok (noting answer)
noted (Err refusal) = Err refusal
