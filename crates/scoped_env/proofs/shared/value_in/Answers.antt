-- The last of the batches that are left has a pair with the key, or it needs no look.
use Rattle.std.proofs.Common.{◌-◌, ◌∙◌, arith, length, refl, sym}
use Rattle.scoped_env.proofs.Words.{slice_get_read}
use Rattle.scoped_env.proofs.Batches.{found_last, none_left, not_last}
use Rattle.scoped_env.proofs.shared.value_in.Goals as goal

pub returns-then-is_some : goal.returns-then-is_some
returns-then-is_some c =
    found_last c.args.key.now c.args.batches.now c.loop-left.left c.index-batches-left.result c.value_of-value.result c.loop-left-test.true
    (slice_get_read c.args.batches.now (length c.args.batches.now) (c.loop-left.left - 1) c.index-batches-left.result refl (omega (arith, c.loop-left-test.true, c.loop-left.invariant.within)) c.index-batches-left.is)
    c.value_of-value.ensures (sym c.is_some.ensures ∙ c.if-is_some.true)
    ∙ sym c.loop-left.invariant.same

pub loop-left-preserved : goal.loop-left-preserved
loop-left-preserved c = record {
  within = omega (arith, c.loop-left.invariant.within);
  same = c.loop-left.invariant.same
      ∙ not_last c.args.key.now c.args.batches.now c.loop-left.left c.index-batches-left.result c.value_of-value.result c.loop-left-test.true
      (slice_get_read c.args.batches.now (length c.args.batches.now) (c.loop-left.left - 1) c.index-batches-left.result refl (omega (arith, c.loop-left-test.true, c.loop-left.invariant.within)) c.index-batches-left.is)
      c.value_of-value.ensures (sym c.is_some.ensures ∙ c.if-is_some.false);
}

pub returns : goal.returns
returns c = none_left c.args.key.now c.args.batches.now c.loop-left.left (omega (arith, c.loop-left-test.false)) ∙ sym c.loop-left.invariant.same
