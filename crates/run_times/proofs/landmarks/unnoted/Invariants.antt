-- Nothing so far.
use Rattle.run_times.specs.{IsUnnoted}
use Rattle.run_times.proofs.landmarks.unnoted.Given as goal

abbrev pub invariant-loop : goal.invariant-loop
invariant-loop l = IsUnnoted l.places.items l.counter
