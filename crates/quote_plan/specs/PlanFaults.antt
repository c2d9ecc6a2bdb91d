-- What a fault in reading a plan says of it.
use Rattle.std.specs.Prelude.{◌≡◌}
use Rattle.quote_plan.specs.Words.{ℕ, List, Memory, PlanFault, PlanLine, Word}
use Rattle.quote_plan.specs.{PlanReading.FirstBad, PlanReading.RefusedAt, PlanWhys.why_at}

-- a bad word names the first bad line; memory can only be refused for an offer, and no line up to that
-- one is bad
abbrev pub FaultIn : List PlanLine → PlanFault → Type 0
FaultIn lines (Word number why) = FirstBad lines number
FaultIn lines Memory = RefusedAt lines

-- a bad word's cause is that of its line
abbrev pub CauseIn : List ℕ → PlanFault → Type 0
CauseIn bytes (Word number why) = why ≡ why_at bytes number
CauseIn bytes Memory = Unit {0}
