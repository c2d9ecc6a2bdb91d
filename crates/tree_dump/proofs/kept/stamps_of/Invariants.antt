-- Those of the places so far.
use Rattle.std.proofs.Common.{◌≡◌}
use Rattle.tree_dump.specs.{stamps_to}
use Rattle.tree_dump.proofs.kept.stamps_of.Given as goal

abbrev pub invariant-loop-place : goal.invariant-loop-place
invariant-loop-place l = l.found.items ≡ stamps_to l.times l.now l.place
