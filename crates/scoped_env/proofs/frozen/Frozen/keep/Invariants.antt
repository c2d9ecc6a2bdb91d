-- The first of the batches are left.
use Rattle.std.proofs.Common.{◌≡◌, length, take}
use Rattle.scoped_env.proofs.frozen.Frozen.keep.Given as goal

abbrev pub invariant-loop-self : goal.invariant-loop-self
invariant-loop-self l = l.self ≡ take (length l.self) l.initial.self

abbrev pub decreases-loop-self : goal.decreases-loop-self
decreases-loop-self l = length l.self
