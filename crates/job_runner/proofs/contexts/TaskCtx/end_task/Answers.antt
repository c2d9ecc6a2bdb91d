-- The end was refused exactly if the token had shown an open scope.
use Rattle.std.proofs.Common.{◌∙◌, ◌≡◌, ap, sym}
use Rattle.job_runner.specs.{OwnerValue, TicketValue, end_in}
use Rattle.job_runner.proofs.Ended.{ended_unopened, refused_open}
use Rattle.job_runner.proofs.contexts.TaskCtx.end_task.Goals as goal

pub returns-in-Ok-clause-ended : goal.returns-in-Ok-clause-ended
returns-in-Ok-clause-ended g c =
    let answer = rw c.into_held-held.ensures.same at c.in-Ok.ensures.answer in
    let same : c.args.self.token.actor ≡ c.args.ticket.task = ap (λ (t : OwnerValue). t.actor) (sym c.into_held-held.ensures.same) ∙ (sym c.actor.ensures ∙ (c.is_of_task.ensures ∙ c.task.ensures)) in
    let task : c.in-Ok.ended.task ≡ c.args.ticket.task = ap (λ (t : TicketValue). t.task) answer.0.0 in
    rw (ended_unopened c.args.self.token c.args.ticket.task c.args.end c.in-Ok.ended.seen same answer.2) (ap (λ k. end_in k c.in-Ok.ended.seen) task ∙ answer.1)

pub returns-in-Err-clause-ended : goal.returns-in-Err-clause-ended
returns-in-Err-clause-ended g c =
    let answer = rw c.into_held-held.ensures.same at c.in-Err.ensures.answer in
    let same : c.args.self.token.actor ≡ c.args.ticket.task = ap (λ (t : OwnerValue). t.actor) (sym c.into_held-held.ensures.same) ∙ (sym c.actor.ensures ∙ (c.is_of_task.ensures ∙ c.task.ensures)) in
    rw (refused_open c.args.ticket c.in-Err.ticket c.args.self.token c.args.end (c.in-Err.field-0-0, c.in-Err.held) same answer) (record { fault = c.left_open.result; text = c.left_open.ensures; ended = c.finish-in-Err.ensures.ended })
