-- What was read so far of a plan.
use Rattle.std.specs.Prelude.{◌++◌}
use Rattle.quote_plan.specs.Words.{Bool, List, Mode, PlanLine, option_to_list}
use Rattle.quote_plan.specs.{PlanReading.may_follow, PlanReading.mode_in, PlanReading.offer_in, Plans.Named}

-- the modes and the offers of the lines so far
pub record ReadingValue : Type 0 where
  pub modes : List Mode
  pub offers : List Named

-- whether the line may come next
abbrev pub may_come : ReadingValue → PlanLine → Bool
may_come reading line = may_follow reading.modes reading.offers line

-- the same after one more line
abbrev pub with_line : ReadingValue → PlanLine → ReadingValue
with_line reading line = record { modes = reading.modes ++ option_to_list (mode_in line); offers = reading.offers ++ option_to_list (offer_in line) }
