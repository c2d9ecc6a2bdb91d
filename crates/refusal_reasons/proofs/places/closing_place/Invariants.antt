-- The scopes so far are seen.
use Rattle.refusal_reasons.proofs.Closings.{Seen, numbers_left}
use Rattle.refusal_reasons.proofs.places.closing_place.Given as goal

abbrev pub invariant-loop-next : goal.invariant-loop-next
invariant-loop-next g l = Seen (g.R.Readings.history l.readings) l.scope l.opened l.next l.first

abbrev pub decreases-loop-next : goal.decreases-loop-next
decreases-loop-next g l = numbers_left l.scope l.next
