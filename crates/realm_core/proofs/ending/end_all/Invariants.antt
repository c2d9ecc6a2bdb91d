-- The ends so far are recorded, and the token has seen them.
use Rattle.std.proofs.Common.{◌≡◌}
use Rattle.realm_core.specs.{history_of, verdict}
use Rattle.realm_core.proofs.EndSteps.{IsUnderWay}
use Rattle.realm_core.proofs.ending.end_all.Given as goal

abbrev pub invariant-loop-last : goal.invariant-loop-last
invariant-loop-last g l =
    (l.token ≡ record l.fn.token { seen = l.token.seen })
    × (l.core ≡ record l.fn.core { steps = l.token.seen })
    × IsUnderWay l.fn.token.limits l.fn.token.actor l.fn.scope l.last.scope l.fn.core.steps l.token.seen
    × (l.last.verdict ≡ verdict (history_of l.token.seen) l.last.scope)

abbrev pub decreases-loop-last : goal.decreases-loop-last
decreases-loop-last g l = l.last.scope
