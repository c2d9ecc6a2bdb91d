-- The batches have the first of the pairs.
use Rattle.std.proofs.Common.{◌-◌, length}
use Rattle.scoped_env.specs.{BeginsWith, joined}
use Rattle.scoped_env.proofs.frozen.Frozen.extend.Given as goal

abbrev pub invariant-loop-alloc : goal.invariant-loop-alloc
invariant-loop-alloc l = BeginsWith l.pairs (joined l.self)

abbrev pub decreases-loop-alloc : goal.decreases-loop-alloc
decreases-loop-alloc l = length l.pairs - length (joined l.self)
