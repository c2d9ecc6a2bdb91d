-- The rows so far, and the last one.
use Rattle.std.specs.Prelude.{◌∷◌}
use Rattle.run_picture.specs.{class_of}
use Rattle.run_picture.proofs.Lemmas.{take}
use Rattle.run_picture.proofs.Folding.{IsLastOf}
use Rattle.run_picture.proofs.rows.folded_rows.Given as goal

abbrev pub invariant-loop-one : goal.invariant-loop-one
invariant-loop-one l = IsLastOf (class_of l.columns) l.rows.items l.last (l.fn.first ∷ take l.one-index l.others)
