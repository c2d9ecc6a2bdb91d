-- The pairs of the batches so far.
use Rattle.std.proofs.Common.{◌≡◌, take}
use Rattle.scoped_env.specs.{joined}
use Rattle.scoped_env.proofs.shared.pairs_in.Given as goal

abbrev pub invariant-loop-batch : goal.invariant-loop-batch
invariant-loop-batch l = l.pairs.items ≡ joined (take l.batch-index l.batches)
