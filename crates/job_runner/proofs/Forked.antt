-- What the fork of a job comes to, once a thread was asked for.
use Rattle.std.proofs.Common.{[], ℕ, ◌++◌, ◌∙◌, ◌∷◌, ◌≡◌, Err, IfOk, Ok, Result, ap}
use Rattle.scope_rules.specs.declared.types.answers.ForkReply.TheVariants.{Never, Thread}
use Rattle.job_runner.specs.{Accepted, Before, Fork, ForkRefusal, ForkReply, ForkWhy, ForksJob, Happened, HasThreadMore, IsSameTeam, KeepsThread, LabelValue, OwnerValue, Rejected, SeesMore, SpawnsJob, TeamValue, TicketValue}
use Rattle.job_runner.specs.{reply_there, ticket_of, why_alone}

-- the fork is recorded; the thread that was asked for runs the job, or the task is rejected
pub forked_job : (old mid new : OwnerValue) (scope : ℕ) (label : LabelValue) (ticket : TicketValue) (answer : Result ForkReply ForkWhy) → SeesMore old mid → Accepted old mid (Happened (Fork old.actor scope label)) (reply_there scope) (Thread ticket.task) → SpawnsJob mid new ticket answer → ForksJob old new scope label answer
forked_job old mid new scope label ticket (Ok reply) sees accepted said = rw (said.0, said.1) accepted
forked_job old mid new scope label ticket (Err (Rejected task)) sees accepted said = record {
  forked = mid;
  accepted = rw said.0 accepted;
  sees = sees;
  rejected = rw said.0 said.1;
}
forked_job old mid new scope label ticket (Err (Before refusal)) sees accepted said = absurd said

-- after room was made, a thread that is kept is one more, and has the task's ticket
pub keeps_thread : {C J : Type 0} (mid new : OwnerValue) (s : ℕ) (label : LabelValue) (ticket : TicketValue) (was roomy is : TeamValue) (result : Result ForkReply (ForkRefusal C J)) → ticket ≡ ticket_of mid s label ticket.task → IsSameTeam was roomy → SpawnsJob mid new ticket (why_alone result) → IfOk result (λ _. HasThreadMore ticket roomy is) → IfOk result (λ reply. KeepsThread new s label reply was is)
keeps_thread mid new s label ticket was roomy is (Ok reply) fresh same said kept =
    rw (said.1, said.0) (kept.0 ∙ (ap (λ xs. xs ++ ticket ∷ []) same.0 ∙ ap (λ t. was.running ++ t ∷ []) fresh), kept.1 ∙ same.1)
keeps_thread mid new s label ticket was roomy is (Err e) fresh same said kept = tt
