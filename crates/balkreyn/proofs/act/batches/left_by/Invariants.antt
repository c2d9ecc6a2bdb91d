-- So many places were looked at, each gave what may have come of its job, and the mark is as it was.
use Rattle.std.specs.Prelude.{◌≡◌, All, length}
use Rattle.balkreyn.specs.{MayCome}
use Rattle.balkreyn.proofs.act.batches.left_by.Given as goal

abbrev pub invariant-loop-place : goal.invariant-loop-place
invariant-loop-place g l = All (MayCome (g.J.Yields.may_yield l.name) l.initial.shown) l.cames.items × (length l.cames.items ≡ l.place-index) × (l.shown ≡ l.initial.shown)
