use Rattle.scope_rules.specs.declared.types.answers.ForkReply.TheVariants.{Thread}
use Rattle.job_runner.specs.{Accepted, Fork, Happened, SeesMore, reply_there, why_alone}
use Rattle.job_runner.proofs.Words.{ap}
use Rattle.job_runner.proofs.Forked.{forked_job, keeps_thread}
use Rattle.job_runner.proofs.contexts.TaskCtx.fork_job.Goals as goal

pub returns-in-Ok-Thread-clause-answer : goal.returns-in-Ok-Thread-clause-answer
returns-in-Ok-Thread-clause-answer g c =
    let old = c.args.self.now.token in
    let mid = c.fork.new.token in
    let ticket = c.in-Ok-Thread.ticket in
    let scope = c.args.scope in
    let label = c.args.job.label in
    let accepted : Accepted old mid (Happened (Fork old.actor scope label)) (reply_there scope) (Thread ticket.task) = rw (← c.label-label.ensures, ← (ap (λ x. x.token) c.room_for_a_thread.ensures.rest), ← c.token.view_is) (rw c.in-Ok-Thread.field-0-is at c.in-Ok-Thread.ensures.answer.1) in
    let sees : SeesMore old mid = rw (← (ap (λ x. x.token) c.room_for_a_thread.ensures.rest), ← c.token.view_is) c.in-Ok-Thread.ensures.answer.0 in
    forked_job old mid c.start_thread.new.self.token scope label ticket (why_alone c.start_thread.result) sees accepted c.start_thread.ensures.answer

pub returns-in-Ok-Thread-clause-kept : goal.returns-in-Ok-Thread-clause-kept
returns-in-Ok-Thread-clause-kept g c =
    let fresh = rw c.in-Ok-Thread.field-0-is at c.in-Ok-Thread.ensures.ticket in
    keeps_thread c.fork.new.token c.start_thread.new.self.token c.args.scope c.args.job.label c.in-Ok-Thread.ticket c.args.self.now.team c.room_for_a_thread.new.self.team c.start_thread.new.self.team c.start_thread.result (rw (← c.label-label.ensures) fresh.is) c.room_for_a_thread.ensures.team c.start_thread.ensures.answer c.start_thread.ensures.kept

pub returns-in-Ok-Never-clause-answer : goal.returns-in-Ok-Never-clause-answer
returns-in-Ok-Never-clause-answer g c =
    rw (← c.label-label.ensures, ← (ap (λ x. x.token) c.room_for_a_thread.ensures.rest), ← c.token.view_is) (rw c.in-Ok-Never.field-0-is at c.in-Ok-Never.ensures.answer.1)
