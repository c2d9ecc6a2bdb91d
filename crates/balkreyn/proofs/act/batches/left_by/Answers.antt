use Rattle.balkreyn.specs.{IsCame, MayCome}
use Rattle.balkreyn.proofs.Words.{◌∙◌, rules}
use Rattle.balkreyn.proofs.Looked.{all_more, may_come}
use Rattle.balkreyn.proofs.act.batches.left_by.Goals as goal

pub loop-place-preserved : goal.loop-place-preserved
loop-place-preserved g c =
    let same = c.came_of.ensures.same ∙ c.loop-place.invariant.2 in
    let is : IsCame g.J.Error.From.from_gives c.args.shown.now c.answer-answer.result c.came_of.result = rw c.loop-place.invariant.2 at c.came_of.ensures.came in (
      all_more (MayCome (g.J.Yields.may_yield c.args.name) c.args.shown.now) c.loop-place.cames.items c.push.new.self.items c.came_of.result c.in_ok-push.ensures.items c.loop-place.invariant.0 (may_come (g.J.Yields.may_yield c.args.name) g.J.Error.From.from_gives c.args.shown.now c.answer-answer.result c.came_of.result c.answer-answer.ensures is),
      search rules,
      same,
    )
