-- The times so far come before the moment.
use Rattle.std.specs.Prelude.{◌+◌, ◌≡◌}
use Rattle.script_jobs.specs.{count_before, length}
use Rattle.script_jobs.proofs.between.count_before.Given as goal

abbrev pub decreases-loop-time : goal.decreases-loop-time
decreases-loop-time l = length l.rest

abbrev pub invariant-loop-time : goal.invariant-loop-time
invariant-loop-time l = record {
  counted : l.count + count_before l.moment l.rest ≡ count_before l.moment l.times;
  fits : l.count + length l.rest ≡ length l.times;
}
