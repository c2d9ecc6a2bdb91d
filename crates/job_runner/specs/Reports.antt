-- What a close with a report does in a context, hold by hold, with the tickets that its team holds by then.
use Rattle.std.specs.Prelude.{ℕ, ◌≡◌, ◌⊎◌, Err, List, Ok}
use Rattle.thread_pool.specs.Teams.{Joins}
use Rattle.job_runner.specs.Words.{ArePartedAt, Begins, Cancelling, CloseReport, EndsReported, HoldsBack, IsPermutation, Memory, OwnerValue, Refusal, TeamValue, TicketValue}

-- a close that has begun ended, and its report is of those returned tickets that are of its scope, or of one
-- that was opened later
pub record EndsOwn (s : ℕ) (returned : List TicketValue) (old new : OwnerValue) (report : CloseReport) : Type 0 where
  pub tickets : List TicketValue
  pub others : List TicketValue
  pub parted : ArePartedAt s returned tickets others
  pub ends : EndsReported old new s tickets report

-- it was held back with those tickets, and all that had returned are there still
pub record HoldsBackOwn (s : ℕ) (returned kept : List TicketValue) (old new : OwnerValue) (refusal : Refusal) : Type 0 where
  pub tickets : List TicketValue
  pub others : List TicketValue
  pub left : List TicketValue
  pub parted : ArePartedAt s returned tickets others
  pub holds : HoldsBack old new s tickets left refusal
  pub there : IsPermutation returned kept

-- what the hold did that did not end it: nothing, or there was no room to list the tickets
abbrev pub Held : ℕ → List TicketValue → List TicketValue → OwnerValue → OwnerValue → Refusal → Type 0
Held s returned kept old new refusal = HoldsBackOwn s returned kept old new refusal ⊎ ((new ≡ old) × (refusal ≡ Memory) × (kept ≡ returned))

-- it began, and its threads were joined
pub record JoinsHere (old begun : OwnerValue) (s : ℕ) (team joined : TeamValue) : Type 0 where
  pub how : Cancelling
  pub same : begun ≡ record old { seen = begun.seen }
  pub begins : Begins old begun s (Ok how)
  pub joins : Joins old.table s team joined

-- so it did, and it ended
pub record ClosesHere (old new : OwnerValue) (s : ℕ) (team : TeamValue) (report : CloseReport) : Type 0 where
  pub begun : OwnerValue
  pub joined : TeamValue
  pub here : JoinsHere old begun s team joined
  pub ends : EndsOwn s joined.returned begun new report

-- so it did, and it was not ended
pub record StaysBegunHere (old new : OwnerValue) (s : ℕ) (team left : TeamValue) (refusal : Refusal) : Type 0 where
  pub begun : OwnerValue
  pub joined : TeamValue
  pub here : JoinsHere old begun s team joined
  pub held : Held s joined.returned left.returned begun new refusal
  pub running : left.running ≡ joined.running

-- it could not begin; or it has begun
abbrev pub StaysHere : OwnerValue → OwnerValue → ℕ → TeamValue → TeamValue → Refusal → Type 0
StaysHere old new s team left refusal = (Begins old new s (Err refusal) × (left ≡ team)) ⊎ StaysBegunHere old new s team left refusal
