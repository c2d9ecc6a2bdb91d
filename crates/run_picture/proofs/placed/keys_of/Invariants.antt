-- The keys of the nodes so far: of tasks, and then of scopes.
use Rattle.std.specs.Prelude.{◌+◌}
use Rattle.run_picture.specs.{AreKeys, length}
use Rattle.run_picture.proofs.placed.keys_of.Given as goal

abbrev pub invariant-loop-row : goal.invariant-loop-row
invariant-loop-row l = AreKeys l.keys.items l.columns l.row-index

abbrev pub invariant-loop-index : goal.invariant-loop-index
invariant-loop-index l = AreKeys l.keys.items l.columns (length l.columns.tasks.items + l.index)
