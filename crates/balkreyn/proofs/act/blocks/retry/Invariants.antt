use Rattle.std.proofs.Common.{◌-◌, ◌≤◌}
use Rattle.balkreyn.specs.{Failed, Sleeps}
use Rattle.balkreyn.proofs.Words.{always_mut}
use Rattle.balkreyn.proofs.act.blocks.retry.Given as goal

-- so many tries failed, and the body may be called again
abbrev pub invariant-loop-number : goal.invariant-loop-number
invariant-loop-number g l =
    (always_mut g.F.FnMut l.initial.body → always_mut g.F.FnMut l.body)
    × (l.number ≤ l.backoff.retries)
    × Failed g.F.FnMut (λ millis old new slept. Sleeps g.X.Acts.reads g.X.Acts.reading g.X.Acts.time g.X.Scopes.token g.X.Acts.seat millis old new slept) l.backoff.pause l.initial.body l.initial.cx l.number l.pause l.body l.cx

abbrev pub decreases-loop-number : goal.decreases-loop-number
decreases-loop-number g l = l.backoff.retries - l.number
