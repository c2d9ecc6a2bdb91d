-- Waits that look again and again, and sleep between two looks.
use Rattle.std.specs.Prelude.{ℕ, ◌<◌, ◌≡◌, ◌⊎◌, Bool, Err, IsErrAnd, IsOk, List, None, Ok, Option, Result, Some, false, length, remove, slice_index_or, true}
use Rattle.scope_rules.specs.declared.types.answers.State.TheVariants.{Failed, Unavailable}
use Rattle.balkreyn.specs.Words.{Came, Cancel, Cancelling, EndValue, Mark, Memory, MutBor, Name, Once, OwnerValue, Reads, RecordsOrMemory, Refusal, SeesMore, State, Success, answering, state, task_check}
use Rattle.balkreyn.specs.{Acting.RanBound, Slots.SlotValue, Slots.task_of}
use Rattle.scope_rules.specs.declared.types.refusals.Refusal.TheVariants as refused
use Rattle.balkreyn.specs.declared.act.came.Came.TheVariants as came

-- from the call's begin on the token has only seen more, and last of all the actor slept, which was answered so
pub record SleptLast {X : Type 0} (token : X → OwnerValue) (sleeps : X → X → Result (Option Mark) Refusal → Type 0) (old new : X) (slept : Result (Option Mark) Refusal) : Type 0 where
  pub before : X
  pub waited : SeesMore (token old) (token before)
  pub answered : sleeps before new slept

-- what is so if a wait found something, or gives the mark that was shown in its last sleep; or that was refused
abbrev pub Awaits : {X T : Type 0} → (X → OwnerValue) → (X → X → Result (Option Mark) Refusal → Type 0) → X → X → Result (Result T Mark) Refusal → Type 0
Awaits token sleeps old new (Ok (Ok found)) = Unit {0}
Awaits token sleeps old new (Ok (Err mark)) = SleptLast token sleeps old new (Ok (Some mark))
Awaits token sleeps old new (Err refusal) = SleptLast token sleeps old new (Err refusal)

-- what an ask for a permit did and answered: as a wait does; or there was no memory for it, and nothing was done
abbrev pub Permits : {X T : Type 0} → (X → OwnerValue) → (X → X → Result (Option Mark) Refusal → Type 0) → X → X → Result (Option T) Refusal → Type 0
Permits token sleeps old new (Ok (Some permit)) = Unit {0}
Permits token sleeps old new (Ok None) = (mark : Mark) × SleptLast token sleeps old new (Ok (Some mark))
Permits token sleeps old new (Err refusal) = ((refusal ≡ Memory) × (new ≡ old)) ⊎ SleptLast token sleeps old new (Err refusal)

-- whether a turn came that was waited for: not if a mark was shown in the last pause, or if that was refused
abbrev pub WaitsTurn : {X : Type 0} → (X → OwnerValue) → (pauses : ℕ → X → X → Result (Option Mark) Refusal → Type 0) → X → X → Result Bool Refusal → Type 0
WaitsTurn token pauses old new (Ok true) = Unit {0}
WaitsTurn token pauses old new (Ok false) = (millis : ℕ) × (mark : Mark) × SleptLast token (pauses millis) old new (Ok (Some mark))
WaitsTurn token pauses old new (Err refusal) = (millis : ℕ) × SleptLast token (pauses millis) old new (Err refusal)

-- the same; or there was no memory for it, and nothing was done
abbrev pub Passes : {X : Type 0} → (X → OwnerValue) → (pauses : ℕ → X → X → Result (Option Mark) Refusal → Type 0) → X → X → Result Bool Refusal → Type 0
Passes token pauses old new (Ok passed) = WaitsTurn token pauses old new (Ok passed)
Passes token pauses old new (Err refusal) = ((refusal ≡ Memory) × (new ≡ old)) ⊎ WaitsTurn token pauses old new (Err refusal)

-- ---- a body with a permit

-- what came of a body that found this
abbrev pub found_by : {T E : Type 0} → Result T E → Came T E
found_by (Ok value) = came.Value value
found_by (Err error) = came.Failed error

-- the token only saw more, then the body ran once, and last of all
pub record RunsHolding {F X T E : Type 0} (token : X → OwnerValue) (calls : Once F (MutBor X × Unit {0}) (Result T E × (MutBor X × Unit {0}))) (body : F) (old new : X) (result : Result (Came T E) Refusal) : Type 0 where
  pub begun : X
  pub waited : SeesMore (token old) (token begun)
  pub found : Result T E
  pub ran : RanBound calls body begun new found
  pub answers : result ≡ Ok (found_by found)

-- the body was not called, since a mark was shown in the last sleep of the wait, or that was refused
abbrev pub GivesUp : {X T E : Type 0} → (X → OwnerValue) → (X → X → Result (Option Mark) Refusal → Type 0) → X → X → Result (Came T E) Refusal → Type 0
GivesUp token sleeps old new result = ((mark : Mark) × SleptLast token sleeps old new (Ok (Some mark)) × (result ≡ Ok (came.Cut mark)))
    ⊎ ((refusal : Refusal) × SleptLast token sleeps old new (Err refusal) × (result ≡ Err refusal))

-- the body ran with a permit, or it was not called
abbrev pub RunsLimited : {F X T E : Type 0} → (X → OwnerValue) → (X → X → Result (Option Mark) Refusal → Type 0) → Once F (MutBor X × Unit {0}) (Result T E × (MutBor X × Unit {0})) → F → X → X → Result (Came T E) Refusal → Type 0
RunsLimited token sleeps calls body old new result = RunsHolding token calls body old new result ⊎ GivesUp token sleeps old new result

-- ---- results as they complete

-- what is given of a task in this state, before the join: a value that its job may answer, or if that was taken before
-- what is made of a refusal; of one that failed an error
abbrev pub GivesDone : {V E : Type 0} → (V → Type 0) → (Refusal → E → Type 0) → State → Result V E → Type 0
GivesDone may makes (Success number) (Ok value) = may value
GivesDone may makes (Success number) (Err error) = makes refused.Unavailable error
GivesDone may makes (Failed fault) (Ok value) = ⊥
GivesDone may makes (Failed fault) (Err error) = Unit {0}
GivesDone may makes Unavailable given = ⊥

-- the task was seen in a state, and that was given
pub record Completes {V E : Type 0} (may : V → Type 0) (makes : Refusal → E → Type 0) (old new : OwnerValue) (task : ℕ) (given : Result V E) : Type 0 where
  pub seen : State
  pub reads : Reads old new (λ h. Ok seen ≡ answering (task_check h task) (state h task))
  pub gives : GivesDone may makes seen given

-- a look at the task was refused
abbrev pub LookRefused : OwnerValue → OwnerValue → ℕ → Refusal → Type 0
LookRefused old new task refusal = Reads old new (λ h. Err refusal ≡ answering (task_check h task) (state h task))

-- the token only saw more, and then the task of the slot at this index was seen to have ended, of which that was given
pub record FindsDone {X V E : Type 0} (token : X → OwnerValue) (may : Name → V → Type 0) (makes : Refusal → E → Type 0) (slots : List SlotValue) (old new : X) (index task : ℕ) (given : Result V E) : Type 0 where
  pub slot : SlotValue
  pub within : index < length slots
  pub here : slice_index_or slots index slot ≡ slot
  pub its : task ≡ task_of slot.reply
  pub there : X
  pub waited : SeesMore (token old) (token there)
  pub completes : Completes (may slot.name) makes (token there) (token new) task given

-- the same, of a slot that is taken out
pub record TakesDone {X V E : Type 0} (token : X → OwnerValue) (may : Name → V → Type 0) (makes : Refusal → E → Type 0) (slots left : List SlotValue) (old new : X) (task : ℕ) (given : Result V E) : Type 0 where
  pub index : ℕ
  pub found : FindsDone token may makes slots old new index task given
  pub taken : left ≡ remove slots index

-- what the next of the slots comes to: the task of the one that is taken out, with its value or its error; or the mark that
-- was shown in the last sleep, and the slots are as they were
abbrev pub NextCame : {X V E : Type 0} → (X → OwnerValue) → (may : Name → V → Type 0) → (makes : Refusal → E → Type 0) → (X → X → Result (Option Mark) Refusal → Type 0) → (slots left : List SlotValue) → X → X → Came (ℕ × V) (ℕ × E) → Type 0
NextCame token may makes sleeps slots left old new (came.Value done) = TakesDone token may makes slots left old new done.0 (Ok done.1)
NextCame token may makes sleeps slots left old new (came.Failed done) = TakesDone token may makes slots left old new done.0 (Err done.1)
NextCame token may makes sleeps slots left old new (came.Cut mark) = (left ≡ slots) × SleptLast token sleeps old new (Ok (Some mark))

-- a look at the task of a slot was refused, or the sleep between two looks
abbrev pub IsNotFound : {X : Type 0} → (X → OwnerValue) → (X → X → Result (Option Mark) Refusal → Type 0) → X → X → Refusal → Type 0
IsNotFound {X = X} token sleeps old new refusal = SleptLast token sleeps old new (Err refusal) ⊎ ((there : X) × (task : ℕ) × SeesMore (token old) (token there) × LookRefused (token there) (token new) task refusal)

-- ---- a stop

-- what a watch of a scope does: the token only saw more, and last the scope was cancelled, or that was refused; or a mark
-- was shown in its last sleep, or that was refused
abbrev pub Watches : {X : Type 0} → (X → OwnerValue) → (X → X → Result (Option Mark) Refusal → Type 0) → ℕ → X → X → Result Bool Refusal → Type 0
Watches {X = X} token sleeps s old new (Ok true) = (there : X) × (how : Cancelling) × SeesMore (token old) (token there) × RecordsOrMemory (token there) (token new) (Cancel s) (Ok how)
Watches token sleeps s old new (Ok false) = (mark : Mark) × SleptLast token sleeps old new (Ok (Some mark))
Watches {X = X} token sleeps s old new (Err refusal) = SleptLast token sleeps old new (Err refusal) ⊎ ((there : X) × SeesMore (token old) (token there) × RecordsOrMemory (token there) (token new) (Cancel s) (Err refusal))

-- the actor slept to the end, and then asked for a cancel of scope s, which was answered so
abbrev pub CancelsAwake : {X : Type 0} → (X → OwnerValue) → (X → X → Result (Option Mark) Refusal → Type 0) → ℕ → X → X → Result Cancelling Refusal → Type 0
CancelsAwake {X = X} token sleeps s old new how = (there : X) × sleeps old there (Ok None) × RecordsOrMemory (token there) (token new) (Cancel s) how

-- a cancel of scope s behind a sleep: it was asked for, or a mark was shown in the sleep, or one of both was refused
abbrev pub CancelsBehind : {X : Type 0} → (X → OwnerValue) → (X → X → Result (Option Mark) Refusal → Type 0) → ℕ → X → X → Result Bool Refusal → Type 0
CancelsBehind token sleeps s old new (Ok true) = (how : Cancelling) × CancelsAwake token sleeps s old new (Ok how)
CancelsBehind token sleeps s old new (Ok false) = (mark : Mark) × sleeps old new (Ok (Some mark))
CancelsBehind token sleeps s old new (Err refusal) = sleeps old new (Err refusal) ⊎ CancelsAwake token sleeps s old new (Err refusal)

-- what a watch that writes files does: it never gives up before a mark is shown in a sleep, or that is refused, and then
-- it succeeds
abbrev pub WatchesOn : {X : Type 0} → (X → OwnerValue) → (X → X → Result (Option Mark) Refusal → Type 0) → X → X → EndValue → Type 0
WatchesOn token sleeps old new end = IsOk end × (((mark : Mark) × SleptLast token sleeps old new (Ok (Some mark))) ⊎ ((refusal : Refusal) × SleptLast token sleeps old new (Err refusal)))
