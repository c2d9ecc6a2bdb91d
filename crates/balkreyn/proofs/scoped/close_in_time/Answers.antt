use Rattle.balkreyn.proofs.Waited.{waited_first}
use Rattle.balkreyn.proofs.scoped.close_in_time.Goals as goal

pub returns-clause-answer : goal.returns-clause-answer
returns-clause-answer g c = record {
  there = c.await_close_by-waited.new.self.token;
  waited = c.await_close_by-waited.result;
  waits = waited_first g.K.Clock.reads c.args.ctx.now.token c.await_close_by-waited.new.self.token c.args.clock.now c.await_close_by-waited.new.time c.args.scope _ c.await_close_by-waited.result c.await_close_by-waited.ensures.answer c.await_close_by-waited.ensures.settled;
  closes = c.close_scope_bare.ensures.answer;
}
