-- The first of the batches are left after one less, and it is one less.
use Rattle.std.proofs.Common.{◌-◌, ap, arith, length}
use Rattle.scoped_env.proofs.Words.{length-take}
use Rattle.scoped_env.proofs.Batches.{first_popped, joined_some}
use Rattle.scoped_env.proofs.frozen.Frozen.cut.Goals as goal

pub loop-self-preserved : goal.loop-self-preserved
loop-self-preserved c = first_popped c.self.inside.batches.items c.loop-self.self c.pop.new.self c.loop-self.invariant c.pop.ensures

pub loop-self-smaller : goal.loop-self-smaller
loop-self-smaller c =
    omega (arith, ap length c.pop.ensures, length-take (length c.loop-self.self - 1) c.loop-self.self, joined_some c.loop-self.self (omega (arith, c.len.ensures, c.loop-self-test.true)))
