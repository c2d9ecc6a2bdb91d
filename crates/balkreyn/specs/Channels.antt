-- What a send into a channel and a receive from it do.
use Rattle.std.specs.Prelude.{◌≡◌, ◌⊎◌, Bool, Err, IsErrAnd, Ok, Option, Result, Some, false, true}
use Rattle.balkreyn.specs.Words.{CalledWithState, Mark, Mut, MutBor, OwnerValue, Put, Received, Refusal, SeesMore, Sent}
use Rattle.balkreyn.specs.Looking.{SleptLast}
use Rattle.balkreyn.specs.declared.act.channels.Put.TheVariants as put
use Rattle.balkreyn.specs.declared.act.channels.Received.TheVariants as received
use Rattle.balkreyn.specs.declared.act.channels.Sent.TheVariants as sent

-- a value that was not put comes back
abbrev pub HandsBack : {T : Type 0} → T → Put T → Type 0
HandsBack value put.Done = Unit {0}
HandsBack value (put.Full back) = back ≡ value
HandsBack value (put.Closed back) = back ≡ value

-- a value that was not sent comes back; by a cancel only if a mark was shown in the last sleep
abbrev pub Sends : {X T : Type 0} → (X → OwnerValue) → (X → X → Result (Option Mark) Refusal → Type 0) → T → X → X → Sent T → Type 0
Sends token sleeps value old new sent.Done = SeesMore (token old) (token new)
Sends token sleeps value old new (sent.Closed back) = (back ≡ value) × SeesMore (token old) (token new)
Sends token sleeps value old new (sent.Cancelled back) = (back ≡ value) × ((mark : Mark) × SleptLast token sleeps old new (Ok (Some mark)))

-- a receive answers that it was cancelled only if a mark was shown in the last sleep, and is refused only as that is
abbrev pub Receives : {X T : Type 0} → (X → OwnerValue) → (X → X → Result (Option Mark) Refusal → Type 0) → X → X → Result (Received T) Refusal → Type 0
Receives token sleeps old new (Ok (received.Value value)) = SeesMore (token old) (token new)
Receives token sleeps old new (Ok received.Closed) = SeesMore (token old) (token new)
Receives token sleeps old new (Ok received.Cancelled) = (mark : Mark) × SleptLast token sleeps old new (Ok (Some mark))
Receives token sleeps old new (Err refusal) = SleptLast token sleeps old new (Err refusal)

-- ---- a body that is called with each value

-- so many values were received, one after the other, and the body succeeded with each
pub data Handled {F X T E : Type 0} (calls : Mut F (MutBor X × (T × Unit {0})) (Result (Unit {0}) E × (MutBor X × Unit {0}))) (receives : X → X → Result (Received T) Refusal → Type 0) (body : F) (old : X) : F → X → Type 0 where
  none : Handled calls receives body old body old
  one : {state state_new : F} {begun there after : X} {value : T} → Handled calls receives body old state begun → receives begun there (Ok (received.Value value)) → CalledWithState calls state there value (Ok tt) state_new after → Handled calls receives body old state_new after

-- one value more was received, and the body failed with it
pub record FailsWith {F X T E : Type 0} (calls : Mut F (MutBor X × (T × Unit {0})) (Result (Unit {0}) E × (MutBor X × Unit {0}))) (receives : X → X → Result (Received T) Refusal → Type 0) (state : F) (begun new : X) (result : Result Bool E) : Type 0 where
  pub there : X
  pub value : T
  pub received : receives begun there (Ok (received.Value value))
  pub error : E
  pub state_new : F
  pub called : CalledWithState calls state there value (Err error) state_new new
  pub answers : result ≡ Err error

-- what is answered behind the last value: that the channel was closed, or that a cancel came; or the wait was refused, or the
-- body failed, and nothing was done behind it
abbrev pub EndsEach : {F X T E : Type 0} → Mut F (MutBor X × (T × Unit {0})) (Result (Unit {0}) E × (MutBor X × Unit {0})) → (X → X → Result (Received T) Refusal → Type 0) → (Refusal → E → Type 0) → F → X → X → Result Bool E → Type 0
EndsEach calls receives makes state begun new result = (receives begun new (Ok received.Closed) × (result ≡ Ok true))
    ⊎ (receives begun new (Ok received.Cancelled) × (result ≡ Ok false))
    ⊎ ((refusal : Refusal) × receives begun new (Err refusal) × IsErrAnd result (makes refusal))
    ⊎ FailsWith calls receives state begun new result

-- the body was called with each value, until one of these came: each call but the last succeeded
pub record ReceivesEach {F X T E : Type 0} (calls : Mut F (MutBor X × (T × Unit {0})) (Result (Unit {0}) E × (MutBor X × Unit {0}))) (receives : X → X → Result (Received T) Refusal → Type 0) (makes : Refusal → E → Type 0) (body : F) (old new : X) (result : Result Bool E) : Type 0 where
  pub state : F
  pub begun : X
  pub handled : Handled calls receives body old state begun
  pub ends : EndsEach calls receives makes state begun new result
