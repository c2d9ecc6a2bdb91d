-- The lines before the rest were read.
use Rattle.std.specs.Prelude.{◌+◌, ◌≤◌}
use Rattle.quote_plan.specs.{length}
use Rattle.quote_plan.proofs.{Causes.HasCut, Progress.HasRead}
use Rattle.quote_plan.proofs.reading.read_plan.Given as goal

abbrev pub invariant-loop-text : goal.invariant-loop-text
invariant-loop-text l = record { read : HasRead l.fn.bytes l.rest l.line l.reading; cut : HasCut l.fn.bytes l.rest l.line; within : l.line + length l.rest ≤ length l.fn.bytes }

abbrev pub decreases-loop-text : goal.decreases-loop-text
decreases-loop-text l = length l.rest
