-- There are so many places.
use Rattle.std.proofs.Common.{◌≡◌, length}
use Rattle.balkreyn.proofs.act.batches.places_of.Given as goal

abbrev pub invariant-loop-place : goal.invariant-loop-place
invariant-loop-place g l = length l.places.items ≡ l._place
