-- So many slots were asked, and the mark is as it was.
use Rattle.std.specs.Prelude.{◌≡◌}
use Rattle.balkreyn.specs.{Gave}
use Rattle.balkreyn.proofs.act.valued.given.Given as goal

abbrev pub invariant-loop-slot : goal.invariant-loop-slot
invariant-loop-slot g l = Gave g.X.Scopes.token g.J.Yields.may_yield g.J.Error.From.from_gives l.initial.shown l.slots l.initial.cx l.slot-index l.cames.items l.cx × (l.shown ≡ l.initial.shown)
