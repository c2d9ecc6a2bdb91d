-- The place is one of the batches, or behind them.
use Rattle.std.proofs.Common.{◌≤◌, length}
use Rattle.scoped_env.proofs.shared.small_from.Given as goal

abbrev pub invariant-loop-place : goal.invariant-loop-place
invariant-loop-place l = l.place ≤ length l.batches

abbrev pub decreases-loop-place : goal.decreases-loop-place
decreases-loop-place l = l.place
