-- The lines before the rest were taken.
use Rattle.quote_plan.specs.{length}
use Rattle.quote_plan.proofs.Passing.{SoFar}
use Rattle.quote_plan.proofs.readers.PlanReader.take.Given as goal

abbrev pub invariant-loop-text : goal.invariant-loop-text
invariant-loop-text l = SoFar l.fn.self l.self l.piece l.rest

abbrev pub decreases-loop-text : goal.decreases-loop-text
decreases-loop-text l = length l.rest
