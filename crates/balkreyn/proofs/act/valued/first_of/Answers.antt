use Rattle.balkreyn.specs.{OfOutcome}
use Rattle.balkreyn.proofs.Words.{refl, subst, sym}
use Rattle.balkreyn.proofs.Looked.{by_error, first_by, of_no_task}
use Rattle.balkreyn.proofs.act.valued.first_of.Goals as goal

-- one succeeded
pub returns-in-Any : goal.returns-in-Any
returns-in-Any g c = first_by g.X.Scopes.token g.X.Acts.reads g.X.Acts.time g.X.Acts.seat g.J.Yields.may_yield g.J.Error.From.from_gives c.args.scope c.args.cx.now c.join.new.self c.came_to.new.cx c.args.slots.now c.in_ok-joined.joined c.in_ok-joined.ensures.answer c.in-Any.task (λ came it. subst (λ o. OfOutcome g.X.Scopes.token g.X.Acts.seat g.J.Yields.may_yield g.J.Error.From.from_gives c.args.slots.now c.join.new.self c.came_to.new.cx o came) (sym c.in-Any.is) it) c.came_to.result c.came_to.ensures

-- all failed
pub returns-in-Failed : goal.returns-in-Failed
returns-in-Failed g c = first_by g.X.Scopes.token g.X.Acts.reads g.X.Acts.time g.X.Acts.seat g.J.Yields.may_yield g.J.Error.From.from_gives c.args.scope c.args.cx.now c.join.new.self c.came_to-in-Failed.new.cx c.args.slots.now c.in_ok-joined.joined c.in_ok-joined.ensures.answer c.in-Failed.task (λ came it. subst (λ o. OfOutcome g.X.Scopes.token g.X.Acts.seat g.J.Yields.may_yield g.J.Error.From.from_gives c.args.slots.now c.join.new.self c.came_to-in-Failed.new.cx o came) (sym c.in-Failed.is) it) c.came_to-in-Failed.result c.came_to-in-Failed.ensures

-- the join was refused
pub returns-in_err-joined : goal.returns-in_err-joined
returns-in_err-joined g c = by_error _ _ _ c.from_residual.result c.from_residual.ensures.1 (λ refusal. (c.join.result, g.X.Scopes.token c.join.new.self, c.join.ensures.answer))

-- the outcome names no task, and a mark is shown
pub returns-in-Some : goal.returns-in-Some
returns-in-Some g c = record {
  joined = c.in_ok-joined.joined;
  there = c.join.new.self;
  joins = c.in_ok-joined.ensures.answer;
  first = of_no_task g.X.Scopes.token g.X.Acts.seat g.J.Yields.may_yield g.J.Error.From.from_gives c.args.slots.now c.join.new.self c.checkpoint.new.self c.in_ok-joined.joined.outcome _ (λ task value. c.in_default.not-Any task value) (λ task fault. c.in_default.not-Failed task fault) (c.in-Some.mark, refl, record { sees = c.in-Some.ensures.sees; shows = c.in-Some.ensures.shows });
}
