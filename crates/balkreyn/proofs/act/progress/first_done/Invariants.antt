-- The token has only seen more.
use Rattle.balkreyn.specs.{SeesMore}
use Rattle.balkreyn.proofs.act.progress.first_done.Given as goal

abbrev pub invariant-loop-index : goal.invariant-loop-index
invariant-loop-index g l = SeesMore (g.X.Scopes.token l.initial.cx) (g.X.Scopes.token l.cx)
