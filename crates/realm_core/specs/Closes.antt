-- What the holds of a close did, by what the caller's token has seen then.
use Rattle.std.specs.Prelude.{ℕ, ◌≡◌, ◌⊎◌, Err, List, None, Ok, Option, Result, Some, true}
use Rattle.realm_core.specs.Words.{Agrees, All, BeginClose, Cancelling, CloseReport, Closed, Happened, History, IsPermutation, Limits, Memory, NotReady, OwnerValue, RealmStep, Refusal, TicketValue, TokenOf, Verdict, closed}
use Rattle.realm_core.specs.Words.{closing, verdict}
use Rattle.realm_core.specs.{Calls.DidRecord, Calls.FoundSo, Calls.HasLooked, Calls.Refused, Calls.SeesMore, Calls.history_seen, Cores.CoreValue, Ends.Ends, Reports.AreReported, Reports.IsReported, Reports.numbers, Runs.IsShown}
use Rattle.realm_core.specs.{Tickets.AreTicketsOf, Waiting.HoldsUp, Waiting.IsOpenOf}

-- the actor opened scope s, and has begun to close it, and not closed it
pub record IsBegun (h : History) (a s : ℕ) : Type 0 where
  pub of : IsOpenOf h a s
  pub begun : closing h s ≡ true

-- what the hold did that begins the actor's close of scope s: by then it has begun, and isn't over. It is
-- refused as the beginning of a close is, and for a scope that is closed.
abbrev pub Begins : OwnerValue → OwnerValue → ℕ → Result Cancelling Refusal → Type 0
Begins old new s (Ok how) = DidRecord old new (BeginClose old.actor s) (Ok how) × IsBegun (history_seen new) old.actor s
Begins old new s (Err refusal) = Refused old new (Happened (BeginClose old.actor s)) refusal ⊎ (FoundSo old new (BeginClose old.actor s) × (closed (history_seen new) s ≡ true) × (refusal ≡ Closed))

-- what the hold did that ends it: steps of others, and then exactly the ends
pub record EndsLater (old new : OwnerValue) (s : ℕ) (nested : List ℕ) : Type 0 where
  pub before : List RealmStep
  pub waited : Agrees (TokenOf old.actor) old.seen before
  pub ends : Ends old.limits old.actor s nested before new.seen

-- what a hold did that found that the close can't end yet: nothing, since a task of a scope waits or runs
-- that it covers
pub record WaitsOn (old new : OwnerValue) (s : ℕ) : Type 0 where
  pub looks : HasLooked old new
  pub begun : IsBegun (history_seen new) old.actor s
  pub busy : ℕ
  pub holds_up : HoldsUp (history_seen new) old.actor s busy

-- what a hold did that ends the close without a report, if it can end
abbrev pub MayEnd : OwnerValue → OwnerValue → ℕ → Option Verdict → Type 0
MayEnd old new s None = WaitsOn old new s
MayEnd old new s (Some how) = ((nested : List ℕ) × EndsLater old new s nested) × (how ≡ verdict (history_seen new) s)

-- what that left under the lock: the list with just these ends more, or as it was
abbrev pub EndedThere : Limits → ℕ → ℕ → CoreValue → CoreValue → Option Verdict → Type 0
EndedThere L a s old new None = new ≡ old
EndedThere L a s old new (Some how) = (nested : List ℕ) × Ends L a s nested old.steps new.steps

-- what a close did, hold by hold: it began, others took steps, and it ended
pub record ClosesDown (old new : OwnerValue) (s : ℕ) (nested : List ℕ) : Type 0 where
  pub begun : OwnerValue
  pub how : Cancelling
  pub same : SeesMore old begun
  pub begins : Begins old begun s (Ok how)
  pub ends : EndsLater begun new s nested

-- what a close without a report did, and answered
abbrev pub ClosesBare : OwnerValue → OwnerValue → ℕ → Result Verdict Refusal → Type 0
ClosesBare old new s (Ok how) = ((nested : List ℕ) × ClosesDown old new s nested) × (how ≡ verdict (history_seen new) s)
ClosesBare old new s (Err refusal) = Begins old new s (Err refusal)

-- the report of the close that ended so is what is so after it, and the tickets are those of what it
-- closed: of each task that got a thread there is one start and one finish in it, with its ticket's end
pub record IsDone (old new : OwnerValue) (s : ℕ) (tickets : List TicketValue) (report : CloseReport) : Type 0 where
  pub ends : Ends old.limits old.actor s (numbers report.nested.items) old.seen new.seen
  pub given : AreTicketsOf (history_seen old) s tickets
  pub own : IsReported (history_seen new) s report.verdict report.log
  pub nested : AreReported (history_seen new) report.nested.items
  pub shown : All (IsShown (history_seen new)) tickets

-- the close was not ended: the tickets are not those of what it would close, or memory was refused for
-- the report. They are there still, in any order.
pub record IsLeft (old new : OwnerValue) (s : ℕ) (tickets left : List TicketValue) (refusal : Refusal) : Type 0 where
  pub same : new ≡ old
  pub back : IsPermutation tickets left
  pub why : ((refusal ≡ NotReady) × (AreTicketsOf (history_seen old) s tickets → ⊥)) ⊎ ((refusal ≡ Memory) × AreTicketsOf (history_seen old) s tickets)

-- what a hold did that ends a close with a report: it looked, and then come exactly the ends
pub record EndsReported (old new : OwnerValue) (s : ℕ) (tickets : List TicketValue) (report : CloseReport) : Type 0 where
  pub there : OwnerValue
  pub looks : HasLooked old there
  pub same : SeesMore old there
  pub done : IsDone there new s tickets report

-- what one did that could not end it with a report: nothing
pub record HoldsBack (old new : OwnerValue) (s : ℕ) (tickets left : List TicketValue) (refusal : Refusal) : Type 0 where
  pub looks : HasLooked old new
  pub begun : IsBegun (history_seen new) old.actor s
  pub still : IsLeft new new s tickets left refusal

-- what a hold did that ends the close with a report, if it can end
abbrev pub MayReport : OwnerValue → OwnerValue → ℕ → List TicketValue → List TicketValue → Option (Result CloseReport Refusal) → Type 0
MayReport old new s tickets left None = WaitsOn old new s × (left ≡ tickets)
MayReport old new s tickets left (Some (Ok report)) = EndsReported old new s tickets report
MayReport old new s tickets left (Some (Err refusal)) = HoldsBack old new s tickets left refusal

-- what that left under the lock: the list with just these ends more, or as it was
abbrev pub ReportedThere : Limits → ℕ → ℕ → CoreValue → CoreValue → Option (Result CloseReport Refusal) → Type 0
ReportedThere L a s old new (Some (Ok report)) = Ends L a s (numbers report.nested.items) old.steps new.steps
ReportedThere L a s old new _ = new ≡ old

-- what a close with a report did, hold by hold: it began, others took steps, and it ended
pub record ClosesWith (old new : OwnerValue) (s : ℕ) (tickets : List TicketValue) (report : CloseReport) : Type 0 where
  pub begun : OwnerValue
  pub how : Cancelling
  pub same : SeesMore old begun
  pub begins : Begins old begun s (Ok how)
  pub ends : EndsReported begun new s tickets report

-- what one did that was refused once it had begun
pub record StaysBegun (old new : OwnerValue) (s : ℕ) (tickets left : List TicketValue) (refusal : Refusal) : Type 0 where
  pub begun : OwnerValue
  pub how : Cancelling
  pub same : SeesMore old begun
  pub begins : Begins old begun s (Ok how)
  pub held : HoldsBack begun new s tickets left refusal

-- what one did that was refused: it could not begin, and hands back the tickets as they were; or it has
-- begun
abbrev pub StaysOpen : OwnerValue → OwnerValue → ℕ → List TicketValue → List TicketValue → Refusal → Type 0
StaysOpen old new s tickets left refusal = (Begins old new s (Err refusal) × (left ≡ tickets)) ⊎ StaysBegun old new s tickets left refusal
