-- The pairs of the last batch are counted no more.
use Rattle.scoped_env.proofs.Words.{ap, arith, length}
use Rattle.scoped_env.proofs.Batches.{joined_count}
use Rattle.scoped_env.proofs.frozen.Frozen.pop.Goals as goal

pub overflow_sub-self : goal.overflow_sub-self
overflow_sub-self c =
    omega (arith, joined_count c.self.inside.batches.items c.pop.new.self.items c.in-Some.batch c.in-Some.ensures.items, ap length c.as_slice.ensures, c.self.invariant)

pub invariant_of-self : goal.invariant_of-self
invariant_of-self c =
    omega (arith, joined_count c.self.inside.batches.items c.pop.new.self.items c.in-Some.batch c.in-Some.ensures.items, ap length c.as_slice.ensures, c.self.invariant)

pub invariant_of-self-in-Some-2 : goal.invariant_of-self-in-Some-2
invariant_of-self-in-Some-2 c =
    omega (arith, joined_count c.self.inside.batches.items c.pop.new.self.items c.in-Some.batch c.in-Some.ensures.items, ap length c.as_slice.ensures, c.self.invariant)
