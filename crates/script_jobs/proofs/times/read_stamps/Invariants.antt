-- The times of the lines so far, and those of the rest, are those of all.
use Rattle.std.specs.Prelude.{◌≡◌}
use Rattle.script_jobs.specs.{[], ended_lines, length, realm_of, stamps_from, starting, the_start}
use Rattle.script_jobs.proofs.times.read_stamps.Given as goal

abbrev pub decreases-loop-line : goal.decreases-loop-line
decreases-loop-line l = length l.rest

abbrev pub invariant-loop-line : goal.invariant-loop-line
invariant-loop-line l = stamps_from l.events.items (realm_of l.book) l.last (ended_lines [] l.rest) ≡ stamps_from [] (starting l.fn.limits the_start) 0 (ended_lines [] l.script)
