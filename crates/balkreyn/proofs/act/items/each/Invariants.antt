use Rattle.balkreyn.specs.{Handled, Pauses, Receives}
use Rattle.balkreyn.proofs.Words.{always_mut}
use Rattle.balkreyn.proofs.act.items.each.Given as goal

-- the body succeeded with each value so far, and may be called again
abbrev pub invariant-loop : goal.invariant-loop
invariant-loop g l =
    (always_mut g.F.FnMut l.initial.body → always_mut g.F.FnMut l.body)
    × Handled g.F.FnMut (λ old new received. Receives g.X.Scopes.token (λ old new slept. Pauses g.X.Acts.reads g.X.Acts.reading g.X.Acts.time g.X.Scopes.token g.X.Acts.seat 1 old new slept) old new received) l.initial.body l.initial.cx l.body l.cx

abbrev pub invariant-loop-2 : goal.invariant-loop-2
invariant-loop-2 g l =
    (goal.iterator-loop-2 g).can_next l.iterator' × (goal.iterator-loop-2 g).is_finite l.iterator'
