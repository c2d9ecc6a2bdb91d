-- A wait by a clock before a close.
use Rattle.balkreyn.specs.{ℕ, Err, FoundUnsettled, IfOk, MatchResult, None, Ok, OwnerValue, Refusal, Result, StaysUnclosed, WaitsFirst, WaitsToClose, history_seen}

-- if it came back, no task waited or ran
pub waited_first : {K : Type 0} (reads : K → K → ℕ → Type 0) (old there : OwnerValue) (start last : K) (s : ℕ) (Begun : Type 0) (result : Result (Unit {0}) Refusal) → MatchResult result (λ _. WaitsToClose reads old there start last s) (StaysUnclosed reads old there start last s) → IfOk result (λ _. Begun × FoundUnsettled (history_seen there) s None) → WaitsFirst reads old there start last s result
waited_first reads old there start last s Begun (Ok done) waits settled = (waits, settled.1)
waited_first reads old there start last s Begun (Err refusal) waits settled = waits
