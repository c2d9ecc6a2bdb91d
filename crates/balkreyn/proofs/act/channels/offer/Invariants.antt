-- The token has only seen more, and the value is at hand.
use Rattle.std.proofs.Common.{◌≡◌}
use Rattle.balkreyn.specs.{SeesMore}
use Rattle.balkreyn.proofs.act.channels.offer.Given as goal

abbrev pub invariant-loop : goal.invariant-loop
invariant-loop g l = SeesMore (g.X.Scopes.token l.initial.cx) (g.X.Scopes.token l.cx) × (l.value ≡ l.initial.value)

abbrev pub invariant-loop-2 : goal.invariant-loop-2
invariant-loop-2 g l =
    (goal.iterator-loop-2 g).can_next l.iterator' × (goal.iterator-loop-2 g).is_finite l.iterator'
