use Rattle.balkreyn_c.proofs.Lemmas.{arith, ints}
use Rattle.balkreyn_c.proofs.Repeats.{gone_more, gone_none, not_refused, stopped, whole}
use Rattle.balkreyn_c.proofs.batches.repeat.Goals as goal

pub loop-place-init : goal.loop-place-init
loop-place-init c = gone_none _ _ _

pub loop-place-preserved : goal.loop-place-preserved
loop-place-preserved c =
    let tried = c.try_at in
    gone_more c.args.realm.now c.loop-place.realm tried.new.realm c.args.event.now c.args.answers.now c.loop-place.answers tried.new.answers c.loop-place.place c.loop-place.invariant c.loop-place-test.true tried.ensures.tries (not_refused tried.result _ c.if-try_at.false tried.ensures.refused)

pub returns-then-try_at : goal.returns-then-try_at
returns-then-try_at c =
    let tried = c.try_at in
    stopped c.args.realm.now c.loop-place.realm tried.new.realm c.args.event.now c.args.answers.now c.loop-place.answers tried.new.answers c.loop-place.place c.loop-place.invariant c.loop-place-test.true tried.ensures.tries _ (omega (arith, ints)) (tried.ensures.refused.0 c.if-try_at.true)

pub returns : goal.returns
returns c =
    whole c.args.realm.now c.loop-place.realm c.args.event.now c.args.answers.now c.loop-place.answers c.loop-place.place _ (omega (arith, ints)) (omega arith) c.loop-place.invariant
