-- Each node that was reached is pending or was placed.
use Rattle.run_picture.specs.{length}
use Rattle.run_picture.proofs.Placing.{IsWalked, missing}
use Rattle.run_picture.proofs.placed.walked.Given as goal

abbrev pub invariant-loop-one : goal.invariant-loop-one
invariant-loop-one l = IsWalked l.keys l.placed.items l.pending.items

abbrev pub decreases-loop-one : goal.decreases-loop-one
decreases-loop-one l = missing l.placed.items (length l.keys)
