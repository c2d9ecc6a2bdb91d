-- The rows so far.
use Rattle.run_picture.specs.{StandFor, class_of}
use Rattle.run_picture.proofs.Lemmas.{take}
use Rattle.run_picture.proofs.rows.plain_rows.Given as goal

abbrev pub invariant-loop-one : goal.invariant-loop-one
invariant-loop-one l = StandFor (class_of l.columns) l.rows.items (take l.one-index l.placed)
