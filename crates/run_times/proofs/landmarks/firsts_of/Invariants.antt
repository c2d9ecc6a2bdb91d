-- The first places among the events so far.
use Rattle.run_times.specs.{AreFirstsTo}
use Rattle.run_times.proofs.landmarks.firsts_of.Given as goal

abbrev pub invariant-loop-place : goal.invariant-loop-place
invariant-loop-place l = AreFirstsTo l.places.items l.landmark l.events l.before l.count l.place
