use Rattle.balkreyn.specs.{FindsNothing}
use Rattle.balkreyn.proofs.Words.{inr, length}
use Rattle.balkreyn.proofs.Looked.{by_error, gathered_by}
use Rattle.balkreyn.proofs.act.valued.gathered.Goals as goal

-- the join was refused
pub returns-in_err-join : goal.returns-in_err-join
returns-in_err-join g c =
    by_error _ (FindsNothing g.X.Scopes.token g.X.Acts.reads g.X.Acts.time c.args.name (length c.args.jobs.items) c.args.scope c.args.cx.now c.join.new.self) _ c.from_residual-in_err-join.result c.from_residual-in_err-join.ensures.1
    (λ refusal. inr (record {
      slots = c.in_ok-slots.slots.items;
      there = c.fork_all.new.cx;
      forked = c.in_ok-slots.ensures.0;
      all = c.in_ok-slots.ensures.1;
      answered = c.join.result;
      after = g.X.Scopes.token c.join.new.self;
      joins = c.join.ensures.answer;
    }))

-- each slot was asked
pub returns : goal.returns
returns g c = gathered_by g.X.Scopes.token g.X.Acts.reads g.X.Acts.time g.X.Acts.seat g.J.Yields.may_yield g.J.Error.From.from_gives c.args.name (length c.args.jobs.items) c.args.scope c.args.cx.now c.fork_all.new.cx c.given.new.cx c.in_ok-slots.slots.items c.deref.result.now c.in_ok-slots.ensures.0 c.in_ok-slots.ensures.1 c.deref.ensures.value c.join.new.self c.checkpoint-shown.new.self c.in_ok-join.field-0 c.checkpoint-shown.result c.in_ok-join.ensures.answer (record { sees = c.checkpoint-shown.ensures.sees; shows = c.checkpoint-shown.ensures.shows }) c.given.result (λ cames. cames.items) c.given.ensures
