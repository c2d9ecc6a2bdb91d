-- What a fork of a job does, and answers.
use Rattle.std.specs.Prelude.{ℕ, ◌≡◌, Err, None, Ok, Result}
use Rattle.scope_rules.specs.declared.types.answers.ForkReply.TheVariants.{Never, Thread}
use Rattle.job_runner.specs.Words.{Accepted, Added, Fork, ForkRefusal, ForkReply, Happened, HasThreadMore, History, IsSameTeam, IsWaiting, LabelValue, NamedValue, OwnerValue, Refusal, Reject, SeesMore, TableId}
use Rattle.job_runner.specs.Words.{TeamValue, TicketValue, end_in, fork_reply}
use Rattle.job_runner.specs.Rooms.{DoesInRoom}
use Rattle.scope_rules.specs.declared.types.refusals.Refusal.TheVariants as refusal
use Rattle.job_runner.specs.declared.forking.ForkRefusal.TheVariants as refused

-- the ticket is of the realm of this name, and of a task with this label that waits for its thread
pub record IsReadyFor (name : TableId) (label : LabelValue) (ticket : TicketValue) : Type 0 where
  pub named : ticket.table ≡ name
  pub labelled : ticket.label ≡ label
  pub waiting : IsWaiting ticket
  pub unended : end_in ticket.task ticket.seen ≡ None

-- why a fork was refused, without the job that is handed back: nothing is recorded, or the fork of this task and its
-- reject
pub data ForkWhy : Type 0 where
  Before : Refusal → ForkWhy
  Rejected : ℕ → ForkWhy

abbrev pub why_of : {C J : Type 0} → ForkRefusal C J → ForkWhy
why_of (refused.Before r job) = Before r
why_of (refused.Rejected task job) = Rejected task

-- the job that is handed back
abbrev pub job_of : {C J : Type 0} → ForkRefusal C J → NamedValue J
job_of (refused.Before r job) = job
job_of (refused.Rejected task job) = job

-- what was answered, without the job
abbrev pub why_alone : {A C J : Type 0} → Result A (ForkRefusal C J) → Result A ForkWhy
why_alone (Ok answer) = Ok answer
why_alone (Err refusal) = Err (why_of refusal)

-- the refusal by its number: a task that was rejected has one of its own
abbrev pub refusal_of : ForkWhy → Refusal
refusal_of (Before r) = r
refusal_of (Rejected task) = refusal.Rejected

-- the ticket of a task that was forked in scope s with this label, as the last step that the token has seen
abbrev pub ticket_of : OwnerValue → ℕ → LabelValue → ℕ → TicketValue
ticket_of token s label task = record { table = token.table; limits = token.limits; task = task; scope = s; label = label; seen = token.seen }

-- what a fork in scope s with this label that was answered so makes of the team, by what the token has seen then: a
-- thread, which has the task's ticket, is one more that the context has to join
abbrev pub KeepsThread : OwnerValue → ℕ → LabelValue → ForkReply → TeamValue → TeamValue → Type 0
KeepsThread token s label (Thread task) old new = HasThreadMore (ticket_of token s label task) old new
KeepsThread token s label (Never task) old new = IsSameTeam old new

abbrev pub reply_there : ℕ → History → ForkReply
reply_there scope h = fork_reply h scope

-- a thread runs the job of the ticket's task, and nothing is added; or its task is rejected, as the last step that
-- the token has seen
abbrev pub SpawnsJob : OwnerValue → OwnerValue → TicketValue → Result ForkReply ForkWhy → Type 0
SpawnsJob old new ticket (Ok reply) = (new ≡ old) × (reply ≡ Thread ticket.task)
SpawnsJob old new ticket (Err (Rejected task)) = (task ≡ ticket.task) × Added old new (Happened (Reject ticket.task))
SpawnsJob old new ticket (Err (Before refusal)) = ⊥

-- the task was forked, by which the token had seen so much, and then it was rejected: that is the last step that
-- the token has seen
pub record ForksRejected (old new : OwnerValue) (scope : ℕ) (label : LabelValue) (task : ℕ) : Type 0 where
  pub forked : OwnerValue
  pub accepted : Accepted old forked (Happened (Fork old.actor scope label)) (reply_there scope) (Thread task)
  pub sees : SeesMore old forked
  pub rejected : Added forked new (Happened (Reject task))

-- what the fork of a job did: it is recorded, and the task has a thread, or none since the scope is
-- cancelled; or it is recorded, and the task's reject with it; or it is refused as the fork of a task is
abbrev pub ForksJob : OwnerValue → OwnerValue → ℕ → LabelValue → Result ForkReply ForkWhy → Type 0
ForksJob old new scope label (Ok reply) = Accepted old new (Happened (Fork old.actor scope label)) (reply_there scope) reply
ForksJob old new scope label (Err (Rejected task)) = ForksRejected old new scope label task
ForksJob old new scope label (Err (Before refusal)) = DoesInRoom old new (Happened (Fork old.actor scope label)) (reply_there scope) (Err refusal)
