-- None of the lines so far has a reading.
use Rattle.std.specs.Prelude.{◌≡◌}
use Rattle.script_jobs.specs.{[], ended_lines, has_reading, length}
use Rattle.script_jobs.proofs.times.has_reading.Given as goal

abbrev pub decreases-loop-line : goal.decreases-loop-line
decreases-loop-line l = length l.rest

abbrev pub invariant-loop-line : goal.invariant-loop-line
invariant-loop-line l = has_reading (ended_lines [] l.rest) ≡ has_reading (ended_lines [] l.script)
