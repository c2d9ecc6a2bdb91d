-- The first of the batches are left after one less, and it is one less.
use Rattle.std.proofs.Common.{◌-◌, ap, arith, length}
use Rattle.scoped_env.proofs.Words.{length-take}
use Rattle.scoped_env.proofs.Batches.{first_popped}
use Rattle.scoped_env.proofs.frozen.Frozen.keep.Goals as goal

pub loop-self-preserved : goal.loop-self-preserved
loop-self-preserved c = first_popped c.args.self.now c.loop-self.self c.pop.new.self c.loop-self.invariant c.pop.ensures

pub loop-self-smaller : goal.loop-self-smaller
loop-self-smaller c =
    omega (arith, ap length c.pop.ensures, length-take (length c.loop-self.self - 1) c.loop-self.self, c.number.ensures, c.loop-self-test.true)
