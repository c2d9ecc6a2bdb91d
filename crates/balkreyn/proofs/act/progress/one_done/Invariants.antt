-- The token has only seen more.
use Rattle.balkreyn.specs.{SeesMore}
use Rattle.balkreyn.proofs.act.progress.one_done.Given as goal

abbrev pub invariant-loop : goal.invariant-loop
invariant-loop g l = SeesMore (g.X.Scopes.token l.initial.cx) (g.X.Scopes.token l.cx)

abbrev pub invariant-loop-2 : goal.invariant-loop-2
invariant-loop-2 g l =
    (goal.iterator-loop-2 g).can_next l.iterator' × (goal.iterator-loop-2 g).is_finite l.iterator'
