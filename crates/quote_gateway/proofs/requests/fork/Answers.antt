use Rattle.quote_gateway.specs.{Err, why_of}
use Rattle.quote_gateway.proofs.Words.{◌∙◌, Ok}
use Rattle.quote_gateway.proofs.Turned.{fork_keeps, fork_refused}
use Rattle.quote_gateway.proofs.requests.fork.Goals as goal

pub returns-in-Ok-clause-keeps : goal.returns-in-Ok-clause-keeps
returns-in-Ok-clause-keeps g c = fork_keeps c.args.ctx.now.token c.fork_job.new.self.token c.args.scope c.args.job.label (Ok c.in-Ok.reply) c.requires.here c.in-Ok.ensures.answer

pub returns-in-Err-clause-keeps : goal.returns-in-Err-clause-keeps
returns-in-Err-clause-keeps g c = fork_keeps c.args.ctx.now.token c.fork_job.new.self.token c.args.scope c.args.job.label (Err (why_of c.in-Err.refused)) c.requires.here c.in-Err.ensures.answer

pub returns-in-Err-clause-refused : goal.returns-in-Err-clause-refused
returns-in-Err-clause-refused g c =
    fork_refused c.args.ctx.now.token c.fork_job.new.self.token c.args.scope c.args.job.label (why_of c.in-Err.refused) c.of_refusal.result c.requires.here c.in-Err.ensures.answer c.of_refusal.ensures.call (λ m. c.of_refusal.ensures.memory (c.refusal.ensures ∙ m))
