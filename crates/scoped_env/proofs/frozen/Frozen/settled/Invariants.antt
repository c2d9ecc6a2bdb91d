-- As many batches stay as there are, or fewer.
use Rattle.std.proofs.Common.{◌≤◌, length}
use Rattle.scoped_env.proofs.frozen.Frozen.settled.Given as goal

abbrev pub invariant-loop-self : goal.invariant-loop-self
invariant-loop-self l = l.kept ≤ length l.self-inside.batches.items

abbrev pub decreases-loop-self : goal.decreases-loop-self
decreases-loop-self l = l.kept
