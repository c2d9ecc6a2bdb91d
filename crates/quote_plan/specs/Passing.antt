-- How far a plan has been read that comes piece by piece.
use Rattle.std.specs.Prelude.{◌++◌, ◌+◌, ◌≡◌}
use Rattle.quote_plan.specs.Words.{ℕ, List, Memory, PlanFault, Word, length, map, slice_split}
use Rattle.quote_plan.specs.PlanReading.{AreGood, FirstBad, lines_of, modes_in, offers_in}
use Rattle.quote_plan.specs.{Begun.StandsFor, Cutting.HasNoFeed, Cutting.is_feed, PlanLines.line_said, PlanWhys.why_at, ReadSoFar.ReadingValue}

-- what is known of a plan under way: the number of the line that is begun, what the lines before it said, and what is
-- kept of the begun line
pub record PlanSoFar : Type 0 where
  pub number : ℕ
  pub reading : ReadingValue
  pub begun : List ℕ

-- the bytes are whole lines, all of them good, which said this, and the next line has this number
pub record Passed (front : List ℕ) (number : ℕ) (reading : ReadingValue) : Type 0 where
  pub pieces : List (List ℕ)
  pub split : (more : List ℕ) → slice_split is_feed (front ++ more) ≡ pieces ++ slice_split is_feed more
  pub counted : number ≡ length pieces + 1
  pub good : AreGood (map line_said pieces) (length pieces)
  pub modes : modes_in (map line_said pieces) ≡ reading.modes
  pub offers : offers_in (map line_said pieces) ≡ reading.offers

-- just these bytes were taken: whole lines that were passed, and the begun one
pub record HasTaken (plan : PlanSoFar) (bytes : List ℕ) : Type 0 where
  pub front : List ℕ
  pub line : List ℕ
  pub whole : bytes ≡ front ++ line
  pub passed : Passed front plan.number plan.reading
  pub unended : HasNoFeed line
  pub kept : StandsFor plan.begun line

-- the fault names the first bad line of the bytes and its cause, or memory was refused
abbrev pub NamesLine : List ℕ → PlanFault → Type 0
NamesLine bytes (Word number why) = FirstBad (lines_of bytes) number × (why ≡ why_at bytes number)
NamesLine bytes Memory = Unit {0}
