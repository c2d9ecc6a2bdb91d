-- The others, and the batches so far.
use Rattle.std.proofs.Common.{◌++◌, ◌≡◌, take}
use Rattle.scoped_env.specs.{joined}
use Rattle.scoped_env.proofs.shared.share_all.Given as goal

abbrev pub invariant-loop-batch : goal.invariant-loop-batch
invariant-loop-batch l = joined l.others.items ≡ joined l.initial.others.items ++ joined (take l.batch-index l.batches)
