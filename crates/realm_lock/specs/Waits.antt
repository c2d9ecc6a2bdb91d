-- What waits do. The clock is read, if there is one, and the token looks, or ticks to what was read, once a
-- deadline has come by then.
use Rattle.std.specs.Prelude.{ℕ, ◌≡◌, ◌≤◌, ◌⊎◌, Err, None, Ok, Option, Result, Some}
use Rattle.share_ledger.specs.declared.steps.Ask.TheVariants.{Tick}
use Rattle.realm_lock.specs.Words.{Added, Asked, Begins, Cancelling, History, IsBegun, IsNextDeadline, Looked, MatchOption, Memory, OutOfMemory, OwnerValue, Refusal, Refused, SeesMore, TooMany, history_of, history_seen}

-- the deadline that comes next after h has come by the moment
pub record HasCome (h : History) (now : ℕ) : Type 0 where
  pub deadline : ℕ
  pub next : IsNextDeadline h deadline
  pub come : deadline ≤ now

-- it added exactly the tick to the moment, by which a deadline had come
pub record Ticks (old new : OwnerValue) (now : ℕ) : Type 0 where
  pub same : SeesMore old new
  pub adds : Added old new (Asked old.actor (Tick now))
  pub due : HasCome (history_of adds.there) now

-- such a tick was refused, since the load is used up or for want of memory, and nothing was added
pub record TickRefused (old new : OwnerValue) (now : ℕ) (refusal : Refusal) : Type 0 where
  pub same : SeesMore old new
  pub due : HasCome (history_seen new) now
  pub refused : Refused old new (Asked old.actor (Tick now)) refusal ⊎ OutOfMemory old new (Asked old.actor (Tick now)) refusal
  pub why : (refusal ≡ TooMany) ⊎ (refusal ≡ Memory)

-- what was read, if there is a clock; else that stays as it was
abbrev pub ReadsAs : {K : Type 0} → (K → K → ℕ → Type 0) → K → K → Option ℕ → Type 0
ReadsAs reads old new now = MatchOption now (new ≡ old) (reads old new)

-- what was done with token and clock: nothing yet; then it looked, or the clock was read, or it was read and
-- the token ticked to that
pub data Waited {K : Type 0} (reads : K → K → ℕ → Type 0) (old : OwnerValue) (start : K) : OwnerValue → K → Type 0 where
  began : Waited reads old start old start
  looked : {there new : OwnerValue} {clock : K} → Waited reads old start there clock → Looked there new → Waited reads old start new clock
  read : {there : OwnerValue} {clock next : K} {now : ℕ} → Waited reads old start there clock → reads clock next now → Waited reads old start there next
  ticked : {there new : OwnerValue} {clock next : K} {now : ℕ} → Waited reads old start there clock → reads clock next now → Ticks there new now → Waited reads old start new next

-- the wait ended at a tick that was due and refused
pub record Stopped {K : Type 0} (reads : K → K → ℕ → Type 0) (old new : OwnerValue) (start last : K) (refusal : Refusal) : Type 0 where
  pub there : OwnerValue
  pub clock : K
  pub waited : Waited reads old start there clock
  pub now : ℕ
  pub read : reads clock last now
  pub refused : TickRefused there new now refusal

-- ---- joins

-- it waited, and then did what such a join of scope s does
pub record JoinsThen {K A : Type 0} (reads : K → K → ℕ → Type 0) (Did : OwnerValue → OwnerValue → ℕ → Result A Refusal → Type 0) (old new : OwnerValue) (start last : K) (s : ℕ) (result : Result A Refusal) : Type 0 where
  pub there : OwnerValue
  pub waited : Waited reads old start there last
  pub joins : Did there new s result

-- a join by a clock of scope s: such a one, or a tick was refused
abbrev pub JoinsBy : {K A : Type 0} → (K → K → ℕ → Type 0) → (OwnerValue → OwnerValue → ℕ → Result A Refusal → Type 0) → OwnerValue → OwnerValue → K → K → ℕ → Result A Refusal → Type 0
JoinsBy reads Did old new start last s (Ok joined) = JoinsThen reads Did old new start last s (Ok joined)
JoinsBy reads Did old new start last s (Err refusal) = JoinsThen reads Did old new start last s (Err refusal) ⊎ Stopped reads old new start last refusal

-- ---- closes

-- the close of scope s began, and waited
pub record WaitsToClose {K : Type 0} (reads : K → K → ℕ → Type 0) (old there : OwnerValue) (start last : K) (s : ℕ) : Type 0 where
  pub begun : OwnerValue
  pub how : Cancelling
  pub same : SeesMore old begun
  pub begins : Begins old begun s (Ok how)
  pub waited : Waited reads begun start there last

-- it began, and a tick was refused: the scope is closing
pub record StopsClosing {K : Type 0} (reads : K → K → ℕ → Type 0) (old new : OwnerValue) (start last : K) (s : ℕ) (refusal : Refusal) : Type 0 where
  pub begun : OwnerValue
  pub how : Cancelling
  pub same : SeesMore old begun
  pub begins : Begins old begun s (Ok how)
  pub stopped : Stopped reads begun new start last refusal
  pub still : IsBegun (history_seen new) old.actor s

-- so it did, or it could not begin and the clock was not read
abbrev pub StaysUnclosed : {K : Type 0} → (K → K → ℕ → Type 0) → OwnerValue → OwnerValue → K → K → ℕ → Refusal → Type 0
StaysUnclosed reads old new start last s refusal = (Begins old new s (Err refusal) × (last ≡ start)) ⊎ StopsClosing reads old new start last s refusal

-- it began and waited, and from there it closed as a close does that doesn't wait by a clock
pub record ClosesAfter {K : Type 0} (reads : K → K → ℕ → Type 0) (old : OwnerValue) (start last : K) (s : ℕ) (closes : OwnerValue → Type 0) : Type 0 where
  pub there : OwnerValue
  pub waits : WaitsToClose reads old there start last s
  pub then : closes there

-- ---- sleeps

-- the mark that was shown, if one was
abbrev pub shown_in : {M : Type 0} → Result (Option M) Refusal → Option M
shown_in (Ok shown) = shown
shown_in (Err refusal) = None

-- there was a moment to sleep until, and the clock's last reading is not before it
pub record HasPassed (until last : Option ℕ) : Type 0 where
  pub end : ℕ
  pub now : ℕ
  pub ends : until ≡ Some end
  pub reads : last ≡ Some now
  pub passed : end ≤ now
