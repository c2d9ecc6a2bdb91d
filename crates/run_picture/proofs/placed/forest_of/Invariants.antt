-- The nodes so far are in the tables.
use Rattle.run_picture.specs.{IsForestOf}
use Rattle.run_picture.proofs.placed.forest_of.Given as goal

abbrev pub invariant-loop-node : goal.invariant-loop-node
invariant-loop-node l = IsForestOf (record { last = l.last; before = l.before }) l.keys l.node
