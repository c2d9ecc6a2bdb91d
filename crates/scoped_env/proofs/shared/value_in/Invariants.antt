-- The batches behind those that are left have no pair with the key.
use Rattle.std.proofs.Common.{◌≡◌, ◌≤◌, length, take}
use Rattle.scoped_env.specs.{bound_to, joined}
use Rattle.scoped_env.proofs.shared.value_in.Given as goal

abbrev pub invariant-loop-left : goal.invariant-loop-left
invariant-loop-left l = record { within : l.left ≤ length l.batches; same : bound_to l.key (joined l.batches) ≡ bound_to l.key (joined (take l.left l.batches)) }

abbrev pub decreases-loop-left : goal.decreases-loop-left
decreases-loop-left l = l.left
