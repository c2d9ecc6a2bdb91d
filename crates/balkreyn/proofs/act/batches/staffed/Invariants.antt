use Rattle.std.proofs.Common.{◌-◌, ◌≤◌}
use Rattle.balkreyn.specs.{Forked}
use Rattle.balkreyn.proofs.act.batches.staffed.Given as goal

-- so many workers were forked
abbrev pub invariant-loop-number : goal.invariant-loop-number
invariant-loop-number g l = (l.number ≤ l.workers) × Forked g.X.Scopes.token l.scope l.name l.initial.cx l.number l.cx

abbrev pub decreases-loop-number : goal.decreases-loop-number
decreases-loop-number g l = l.workers - l.number
