-- What the actor had opened behind the candidate is closed.
use Rattle.run_picture.specs.{IsSearched, unwrap_or}
use Rattle.run_picture.proofs.arounds.innermost_before.Given as goal

abbrev pub invariant-loop-candidate : goal.invariant-loop-candidate
invariant-loop-candidate g l = IsSearched (g.R.Readings.history l.readings) l.opening.place l.opening.actor l.candidate

abbrev pub decreases-loop-candidate : goal.decreases-loop-candidate
decreases-loop-candidate g l = unwrap_or l.candidate 0
