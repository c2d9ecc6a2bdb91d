-- One row more, and all rows at the end.
use Rattle.run_picture.specs.{StandFor, class_of}
use Rattle.run_picture.proofs.Lemmas.{slice_get-get_or, subst, take_all}
use Rattle.run_picture.proofs.Folding.{nothing_of, plain_next}
use Rattle.run_picture.proofs.rows.plain_rows.Goals as goal

pub loop-one-init : goal.loop-one-init
loop-one-init c = nothing_of (class_of c.args.columns.now) c.new-rows.result.items c.args.placed.now c.new-rows.ensures.items

pub loop-one-preserved : goal.loop-one-preserved
loop-one-preserved c = plain_next (class_of c.args.columns.now) c.loop-one.rows.items c.push.new.self.items c.plain.result c.args.placed.now c.loop-one.one-index _ (slice_get-get_or c.args.placed.now c.loop-one.one-index _ c.loop-one-test.true) c.loop-one.invariant c.plain.ensures c.in_ok-push.ensures.items

pub returns : goal.returns
returns c = subst (StandFor (class_of c.args.columns.now) c.loop-one.rows.items) (take_all c.loop-one.one-index c.args.placed.now c.loop-one-test.false) c.loop-one.invariant
