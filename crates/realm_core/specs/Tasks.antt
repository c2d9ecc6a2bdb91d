-- What a fork gives, and what the calls with a ticket do.
use Rattle.std.specs.Prelude.{ℕ, ◌≡◌, Err, None, Ok, Result, Some, false, true}
use Rattle.realm_core.specs.Words.{EndValue, Finish, ForkReply, Forked, Happened, IsWaiting, LabelValue, OwnerValue, Refusal, Structure, TableId, TicketValue, end_in, finished_in, given_in, started_in}
use Rattle.realm_core.specs.{Calls.Added, Calls.Refused, Calls.TicketAdded, Calls.TicketLooked, declared.forking.Forked.TheVariants.Never, declared.forking.Forked.TheVariants.Thread}
use Rattle.scope_rules.specs.declared.types.answers.ForkReply.TheVariants as reply

-- the task's number, and whether it gets a thread
abbrev pub reply_of : Forked → ForkReply
reply_of (Thread ticket) = reply.Thread ticket.task
reply_of (Never task) = reply.Never task

-- what was answered, without the ticket
abbrev pub ticket_aside : Result Forked Refusal → Result ForkReply Refusal
ticket_aside (Ok forked) = Ok (reply_of forked)
ticket_aside (Err refusal) = Err refusal

-- the ticket is of a task that was forked so, with the token that has seen so much, and that waits for its
-- thread
pub record IsNewTicket (token : OwnerValue) (scope : ℕ) (label : LabelValue) (ticket : TicketValue) : Type 0 where
  pub is : ticket ≡ record { table = token.table; limits = token.limits; task = ticket.task; scope = scope; label = label; seen = token.seen }
  pub waiting : IsWaiting ticket
  pub unended : end_in ticket.task ticket.seen ≡ None

-- a fork that gives a thread gives the task's ticket
abbrev pub GivesTicket : OwnerValue → ℕ → LabelValue → Result Forked Refusal → Type 0
GivesTicket token scope label (Ok (Thread ticket)) = IsNewTicket token scope label ticket
GivesTicket token scope label _ = Unit {0}

-- a ticket whose task was started and has not ended
pub record IsRunning (t : TicketValue) : Type 0 where
  pub given : given_in t.task t.seen ≡ true
  pub started : started_in t.task t.seen ≡ true
  pub unfinished : finished_in t.task t.seen ≡ false

-- the ticket is of the realm of this name, its task runs, the token is that task's, and the end fits its label
pub record MayFinish (name : TableId) (fitting : LabelValue → EndValue → Type 0) (t : TicketValue) (token : OwnerValue) (end : EndValue) : Type 0 where
  pub named : t.table ≡ name
  pub actor : token.actor ≡ t.task
  pub running : IsRunning t
  pub fits : fitting t.label end

-- what the end of a ticket's task did: it is there, and is all that was added for the ticket and with the
-- token; or it was refused since the task has a scope that is
-- not closed, and then the token is handed back, and the ticket's task runs on
abbrev pub Finishes : TicketValue → TicketValue → OwnerValue → EndValue → Result Unit (Refusal × OwnerValue) → Type 0
Finishes old new token end (Ok done) = TicketAdded old new (Happened (Finish old.task end)) × (end_in old.task new.seen ≡ Some end) × Added token (record token { seen = new.seen }) (Happened (Finish old.task end))
Finishes old new token end (Err back) = TicketLooked old new × (back.1 ≡ record token { seen = new.seen }) × Refused token back.1 (Happened (Finish old.task end)) back.0 × (back.0 ≡ Structure) × IsRunning new
