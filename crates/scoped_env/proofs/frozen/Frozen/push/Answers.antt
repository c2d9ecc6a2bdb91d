-- The pairs of the new batch are counted.
use Rattle.scoped_env.proofs.Words.{◌∙◌, ap, arith, length}
use Rattle.scoped_env.proofs.Batches.{joined_count}
use Rattle.scoped_env.proofs.frozen.Frozen.push.Goals as goal

pub invariant_of-self-2 : goal.invariant_of-self-2
invariant_of-self-2 c =
    omega (arith, joined_count c.push.new.self.items c.self.inside.batches.items c.in_ok-batch.batch c.in_ok-push.ensures.items, ap length (c.in_ok-batch.ensures ∙ c.in_ok-from_slice.ensures.ok), c.self.invariant, c.in-Some.ensures)
