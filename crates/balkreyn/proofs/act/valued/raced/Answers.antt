use Rattle.balkreyn.proofs.Looked.{raced_by}
use Rattle.balkreyn.proofs.act.valued.raced.Goals as goal

-- all were forked
pub returns : goal.returns
returns g c = raced_by g.X.Scopes.token g.X.Acts.reads g.X.Acts.time g.X.Acts.seat g.J.Yields.may_yield g.J.Error.From.from_gives c.args.name _ c.args.scope c.args.cx.now c.fork_all.new.cx c.first_of.new.cx c.in_ok-slots.slots.items c.deref.result.now c.in_ok-slots.ensures.0 c.in_ok-slots.ensures.1 c.deref.ensures.value c.first_of.result c.first_of.ensures
