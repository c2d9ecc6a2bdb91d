use Rattle.std.proofs.Common.{◌-◌, ◌≤◌}
use Rattle.balkreyn.specs.{Repeated, Sleeps}
use Rattle.balkreyn.proofs.Words.{always_mut}
use Rattle.balkreyn.proofs.act.periods.every.Given as goal

-- so many rounds succeeded, and the body may be called again
abbrev pub invariant-loop-number : goal.invariant-loop-number
invariant-loop-number g l =
    (always_mut g.F.FnMut l.initial.body → always_mut g.F.FnMut l.body)
    × (l.number ≤ l.rounds)
    × Repeated g.F.FnMut (λ old new slept. Sleeps g.X.Acts.reads g.X.Acts.reading g.X.Acts.time g.X.Scopes.token g.X.Acts.seat l.millis old new slept) l.initial.body l.initial.cx l.number l.body l.cx

abbrev pub decreases-loop-number : goal.decreases-loop-number
decreases-loop-number g l = l.rounds - l.number
