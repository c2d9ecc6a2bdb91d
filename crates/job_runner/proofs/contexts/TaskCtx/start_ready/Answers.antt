use Rattle.job_runner.specs.{Added, Happened, OwnerValue, Reject, TicketValue}
use Rattle.job_runner.proofs.Words.{subst}
use Rattle.job_runner.proofs.contexts.TaskCtx.start_ready.Goals as goal

pub returns-in-Err-clause-answer : goal.returns-in-Err-clause-answer
returns-in-Err-clause-answer g c =
    let seen = c.reject_with-rejected.new.token in
    let rejected = subst (λ (t : OwnerValue). Added t seen (Happened (Reject c.in-Err.ticket.task))) c.token.view_is c.reject_with-rejected.ensures.token.1 in (
      c.task-task.ensures,
      subst (λ (t : TicketValue). Added c.args.self.now.token seen (Happened (Reject t.task))) c.in-Err.ensures.0 rejected,
    )
