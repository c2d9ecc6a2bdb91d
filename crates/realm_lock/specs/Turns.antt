-- What one hold of a wait does, for which `now` was read, if it waits by a clock.
use Rattle.std.specs.Prelude.{ℕ, ◌≡◌, ◌⊎◌, Bool, Err, IfSome, Ok, Option, Result, Some, false, true}
use Rattle.realm_lock.specs.Words.{History, Looked, OwnerValue, Refusal}
use Rattle.realm_lock.specs.Waits.{HasCome, TickRefused, Ticks}

-- no deadline has come by what was read that isn't passed
abbrev pub IsPassed : History → Option ℕ → Type 0
IsPassed h now = IfSome now (λ moment. HasCome h moment → ⊥)

-- it looked, and ticked at most once, to what was read: whether it did
pub data Turned (now : Option ℕ) (old : OwnerValue) : OwnerValue → Bool → Type 0 where
  stays : Turned now old old false
  looks : {there new : OwnerValue} {ticks : Bool} → Turned now old there ticks → Looked there new → Turned now old new ticks
  passes : {there new : OwnerValue} {moment : ℕ} → Turned now old there false → now ≡ Some moment → Ticks there new moment → Turned now old new true

abbrev pub TakesTurn : Option ℕ → OwnerValue → OwnerValue → Type 0
TakesTurn now old new = (ticks : Bool) × Turned now old new ticks

-- its tick was refused
pub record TurnRefused (now : Option ℕ) (old new : OwnerValue) (refusal : Refusal) : Type 0 where
  pub there : OwnerValue
  pub moment : ℕ
  pub read : now ≡ Some moment
  pub turned : Turned now old there false
  pub refused : TickRefused there new moment refusal

-- it turned, and then did what a join of scope s does
pub record JoinsInTurn {A : Type 0} (Did : OwnerValue → OwnerValue → ℕ → Result A Refusal → Type 0) (now : Option ℕ) (old new : OwnerValue) (s : ℕ) (result : Result A Refusal) : Type 0 where
  pub there : OwnerValue
  pub turns : TakesTurn now old there
  pub joins : Did there new s result

-- so a join of scope s did; or its tick was refused
abbrev pub JoinsInTime : {A : Type 0} → (OwnerValue → OwnerValue → ℕ → Result A Refusal → Type 0) → Option ℕ → OwnerValue → OwnerValue → ℕ → Result A Refusal → Type 0
JoinsInTime Did now old new s (Ok joined) = JoinsInTurn Did now old new s (Ok joined)
JoinsInTime Did now old new s (Err refusal) = JoinsInTurn Did now old new s (Err refusal) ⊎ TurnRefused now old new refusal
