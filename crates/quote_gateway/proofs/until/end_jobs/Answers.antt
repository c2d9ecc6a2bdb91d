use Rattle.quote_gateway.proofs.Timed.{ended_keeps}
use Rattle.quote_gateway.proofs.until.end_jobs.Goals as goal

pub returns-clause-keeps : goal.returns-clause-keeps
returns-clause-keeps g c = ended_keeps g.K.Clock.reads c.args.ctx.now.token c.await_close_by-waited.new.self.token c.args.clock.now c.await_close_by-waited.new.time c.args.scope c.await_close_by-waited.result c.await_close_by-waited.ensures.answer
