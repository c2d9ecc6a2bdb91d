-- What is done by a context that knows the realm's time: each wait reads a copy of its clock.
use Rattle.std.specs.Prelude.{ℕ, ◌*◌, ◌+◌, ◌-◌, ◌^◌, ◌≡◌, ◌≤◌, ◌⊎◌, Err, IfSome, IsErrAnd, None, Ok, Option, Result, Some, min}
use Rattle.scope_rules.specs.declared.types.answers.Effective.TheVariants.{Never}
use Rattle.balkreyn.specs.Words.{At, Backoff, Bind, CalledWithState, DoesOrMemory, Effective, Expiry, Happened, HasCome, HasPassed, History, IsAfter, Joined, Joins, JoinsBy, Mark, Mut, MutBor, Name, Once, Options, OwnerValue, Past}
use Rattle.balkreyn.specs.Words.{Refusal, Seen, Shows, Stopped, Unbind, Value, Verdict, Waited, answering, effective, history_seen, shown_in, until_check}
use Rattle.balkreyn.specs.Bodies.{ClosesFrom}

-- the clock was read, and the options have a deadline so many milliseconds later
pub record IsSoAfter {K : Type 0} (reads : K → K → ℕ → Type 0) (start : K) (millis : ℕ) (expiry : Expiry) (options : Options) : Type 0 where
  pub last : K
  pub now : ℕ
  pub read : reads start last now
  pub after : IsAfter now millis expiry options

-- a copy of this clock reads the moment
abbrev pub IsNow : {K : Type 0} → (K → K → ℕ → Type 0) → K → ℕ → Type 0
IsNow {K = K} reads start now = (last : K) × reads start last now

-- how many milliseconds of now are left until a deadline in effect, if there is one: none are of a scope that is cancelled
abbrev pub left_until : ℕ → Effective → Option ℕ
left_until now Past = Some 0
left_until now (At until) = Some (until - now)
left_until now Never = None

-- what is answered if the deadline in effect was answered so
abbrev pub left_in : ℕ → Result Effective Refusal → Result (Option ℕ) Refusal
left_in now (Ok deadline) = Ok (left_until now deadline)
left_in now (Err refusal) = Err refusal

-- it is the time that is left to scope s, as a copy of this clock reads
pub record RemainsNow {K : Type 0} (reads : K → K → ℕ → Type 0) (start : K) (s : ℕ) (result : Result (Option ℕ) Refusal) (h : History) : Type 0 where
  pub last : K
  pub now : ℕ
  pub read : reads start last now
  pub is : result ≡ left_in now (answering (until_check h s) (effective h s))

-- a join by a copy of this clock
pub record JoinsFrom {K : Type 0} (reads : K → K → ℕ → Type 0) (start : K) (old new : OwnerValue) (scope : ℕ) (result : Result Joined Refusal) : Type 0 where
  pub last : K
  pub joins : JoinsBy reads Joins old new start last scope result

-- what a sleep until the moment did and answered: it waited, and where there is no mark the moment has passed; or a tick
-- was refused
abbrev pub Slept : {K : Type 0} → (K → K → ℕ → Type 0) → (K → Option ℕ) → (old new : OwnerValue) (start last : K) (until : ℕ) → Result (Option Mark) Refusal → Type 0
Slept reads reading old new start last until (Ok None) = Waited reads old start new last × HasPassed (Some until) (reading last)
Slept reads reading old new start last until (Ok (Some mark)) = Waited reads old start new last
Slept reads reading old new start last until (Err refusal) = Stopped reads old new start last refusal

-- a sleep of so many milliseconds by a copy of this clock, from its first reading on; a mark is what the seat shows
pub record SleepsFor {K : Type 0} (reads : K → K → ℕ → Type 0) (reading : K → Option ℕ) (start : K) (old new : OwnerValue) (seat seat_new : Option Seen) (millis : ℕ) (result : Result (Option Mark) Refusal) : Type 0 where
  pub begun : K
  pub now : ℕ
  pub read : reads start begun now
  pub last : K
  pub slept : Slept reads reading old new begun last (min (now + millis) (2 ^ 64 - 1)) result
  pub shows : Shows seat seat_new (shown_in result)

-- the same of a context with a clock, a token and a seat
abbrev pub Sleeps : {K X : Type 0} → (K → K → ℕ → Type 0) → (K → Option ℕ) → (X → K) → (X → OwnerValue) → (X → Option Seen) → (millis : ℕ) → X → X → Result (Option Mark) Refusal → Type 0
Sleeps reads reading time token seat millis old new result = SleepsFor reads reading (time old) (token old) (token new) (seat old) (seat new) millis result

-- what a wait for a ring did and answered: it waited, and where there is no mark, each deadline that had come was passed; or
-- a tick was refused
abbrev pub Heard : {K : Type 0} → (K → K → ℕ → Type 0) → (K → Option ℕ) → (old new : OwnerValue) (start last : K) → Result (Option Mark) Refusal → Type 0
Heard reads reading old new start last (Ok None) = Waited reads old start new last × IfSome (reading last) (λ now. HasCome (history_seen new) now → ⊥)
Heard reads reading old new start last (Ok (Some mark)) = Waited reads old start new last
Heard reads reading old new start last (Err refusal) = Stopped reads old new start last refusal

-- a wait for a ring by a copy of this clock; a mark is what the seat shows
pub record WaitsRung {K : Type 0} (reads : K → K → ℕ → Type 0) (reading : K → Option ℕ) (start : K) (old new : OwnerValue) (seat seat_new : Option Seen) (result : Result (Option Mark) Refusal) : Type 0 where
  pub last : K
  pub heard : Heard reads reading old new start last result
  pub shows : Shows seat seat_new (shown_in result)

-- the pause between two looks of a context: a wait for a ring, or a sleep of so many milliseconds
abbrev pub Pauses : {K X : Type 0} → (K → K → ℕ → Type 0) → (K → Option ℕ) → (X → K) → (X → OwnerValue) → (X → Option Seen) → (millis : ℕ) → X → X → Result (Option Mark) Refusal → Type 0
Pauses reads reading time token seat millis old new result = WaitsRung reads reading (time old) (token old) (token new) (seat old) (seat new) result ⊎ Sleeps reads reading time token seat millis old new result

-- what a close by a copy of the context's clock did, and answered, as that stood then
abbrev pub ClosesNow : {X K : Type 0} → (X → OwnerValue) → (X → X → ℕ → Result Verdict Refusal → Type 0) → (K → K → ℕ → Type 0) → (X → K) → X → X → ℕ → Result Verdict Refusal → Type 0
ClosesNow token leaves reads time old new s result = ClosesFrom token leaves reads (time old) old new s result

-- ---- a body with a binding

-- the key was bound above the actor's other bindings, or that was refused
abbrev pub Binds : {X : Type 0} → (X → OwnerValue) → Name → Value → X → X → Result (Unit {0}) Refusal → Type 0
Binds token key value old new result = DoesOrMemory (token old) (token new) (Happened (Bind (token old).actor (record { key = key; value = value }))) (λ _. tt) result

-- the actor's last own binding was taken away, or that was refused
abbrev pub Unbinds : {X : Type 0} → (X → OwnerValue) → X → X → Result (Unit {0}) Refusal → Type 0
Unbinds token old new result = DoesOrMemory (token old) (token new) (Happened (Unbind (token old).actor)) (λ _. tt) result

-- the body was called with a context, and by its own contract it may have found this then, and left that context
pub record RanBound {F X T E : Type 0} (calls : Once F (MutBor X × Unit {0}) (Result T E × (MutBor X × Unit {0}))) (body : F) (begun ended : X) (found : Result T E) : Type 0 where
  pub lent : MutBor X
  pub given : lent.now ≡ begun
  pub back : MutBor X
  pub left : back.now ≡ ended
  pub met : calls.post body (lent, tt) (found, (back, tt))

-- the bind was refused, and nothing was done behind it
pub record StaysUnbound {X T E : Type 0} (binds : X → X → Result (Unit {0}) Refusal → Type 0) (makes : Refusal → E → Type 0) (old new : X) (result : Result T E) : Type 0 where
  pub refusal : Refusal
  pub refused : binds old new (Err refusal)
  pub answers : IsErrAnd result (makes refusal)

-- what is answered if the body found this, and the unbind was answered that
abbrev pub Unbound : {T E : Type 0} → (Refusal → E → Type 0) → Result T E → Result (Unit {0}) Refusal → Result T E → Type 0
Unbound makes found (Ok done) result = result ≡ found
Unbound makes found (Err refusal) result = IsErrAnd result (makes refusal)

-- first the key was bound, then the body ran, and last the binding was taken away, whatever the body had found
pub record RunsInBinding {F X T E : Type 0} (token : X → OwnerValue) (key : Name) (value : Value) (makes : Refusal → E → Type 0) (calls : Once F (MutBor X × Unit {0}) (Result T E × (MutBor X × Unit {0}))) (body : F) (old new : X) (result : Result T E) : Type 0 where
  pub begun : X
  pub ended : X
  pub found : Result T E
  pub unbound : Result (Unit {0}) Refusal
  pub bound : Binds token key value old begun (Ok tt)
  pub ran : RanBound calls body begun ended found
  pub taken : Unbinds token ended new unbound
  pub answers : Unbound makes found unbound result

-- what was done that runs the body with a binding: one of these two
abbrev pub RunsBound : {F X T E : Type 0} → (X → OwnerValue) → Name → Value → (Refusal → E → Type 0) → Once F (MutBor X × Unit {0}) (Result T E × (MutBor X × Unit {0})) → F → X → X → Result T E → Type 0
RunsBound token key value makes calls body old new result = StaysUnbound (Binds token key value) makes old new result ⊎ RunsInBinding token key value makes calls body old new result

-- ---- tries

-- so many tries failed, one after the other, and behind each the actor slept to the end, the first time for the first
-- pause, and then for twice as long each time
pub data Failed {F X T E : Type 0} (calls : Mut F (MutBor X × (ℕ × Unit {0})) (Result T E × (MutBor X × Unit {0}))) (sleeps : ℕ → X → X → Result (Option Mark) Refusal → Type 0) (first : ℕ) (body : F) (old : X) : ℕ → ℕ → F → X → Type 0 where
  none : Failed calls sleeps first body old 0 first body old
  more : {number pause twice : ℕ} {state state_new : F} {begun ended after : X} {error : E} → Failed calls sleeps first body old number pause state begun → CalledWithState calls state begun number (Err error) state_new ended → sleeps pause ended after (Ok None) → twice ≡ min (pause * 2) (2 ^ 64 - 1) → Failed calls sleeps first body old (number + 1) twice state_new after

-- what is answered behind the last try: what that found, if it succeeded, was the last that may be, or a mark was shown
-- in the pause behind it; or the pause was refused
abbrev pub EndsTries : {X T E : Type 0} → (Refusal → E → Type 0) → (X → X → Result (Option Mark) Refusal → Type 0) → (is_last : Type 0) → Result T E → (ended new : X) → Result T E → Type 0
EndsTries makes sleeps is_last (Ok value) ended new result = (result ≡ Ok value) × (new ≡ ended)
EndsTries makes sleeps is_last (Err error) ended new result = (is_last × (result ≡ Err error) × (new ≡ ended))
    ⊎ ((mark : Mark) × sleeps ended new (Ok (Some mark)) × (result ≡ Err error))
    ⊎ ((refusal : Refusal) × sleeps ended new (Err refusal) × IsErrAnd result (makes refusal))

-- the body was tried until it succeeded, or there was no try left, or a cancel came: each try but the last failed
pub record Retries {F X T E : Type 0} (calls : Mut F (MutBor X × (ℕ × Unit {0})) (Result T E × (MutBor X × Unit {0}))) (sleeps : ℕ → X → X → Result (Option Mark) Refusal → Type 0) (makes : Refusal → E → Type 0) (backoff : Backoff) (body : F) (old new : X) (result : Result T E) : Type 0 where
  pub number : ℕ
  pub pause : ℕ
  pub state : F
  pub begun : X
  pub failed : Failed calls sleeps backoff.pause body old number pause state begun
  pub within : number ≤ backoff.retries
  pub found : Result T E
  pub state_new : F
  pub ended : X
  pub called : CalledWithState calls state begun number found state_new ended
  pub ends : EndsTries makes (sleeps pause) (number ≡ backoff.retries) found ended new result

-- ---- rounds

-- so many rounds succeeded, one after the other, and behind each the actor slept to the end
pub data Repeated {F X E : Type 0} (calls : Mut F (MutBor X × (ℕ × Unit {0})) (Result (Unit {0}) E × (MutBor X × Unit {0}))) (sleeps : X → X → Result (Option Mark) Refusal → Type 0) (body : F) (old : X) : ℕ → F → X → Type 0 where
  start : Repeated calls sleeps body old 0 body old
  round : {number : ℕ} {state state_new : F} {begun ended after : X} → Repeated calls sleeps body old number state begun → CalledWithState calls state begun number (Ok tt) state_new ended → sleeps ended after (Ok None) → Repeated calls sleeps body old (number + 1) state_new after

-- what is answered behind the last call: the body's error, and nothing was done behind it; or a mark was shown in the
-- pause behind it, or that was refused
abbrev pub EndsRound : {X E : Type 0} → (Refusal → E → Type 0) → (X → X → Result (Option Mark) Refusal → Type 0) → Result (Unit {0}) E → (ended new : X) → Result (Option Mark) E → Type 0
EndsRound makes sleeps (Err error) ended new result = (result ≡ Err error) × (new ≡ ended)
EndsRound makes sleeps (Ok done) ended new result = ((mark : Mark) × sleeps ended new (Ok (Some mark)) × (result ≡ Ok (Some mark)))
    ⊎ ((refusal : Refusal) × sleeps ended new (Err refusal) × IsErrAnd result (makes refusal))

-- one call more was made, the last
pub record LastRound {F X E : Type 0} (calls : Mut F (MutBor X × (ℕ × Unit {0})) (Result (Unit {0}) E × (MutBor X × Unit {0}))) (sleeps : X → X → Result (Option Mark) Refusal → Type 0) (makes : Refusal → E → Type 0) (number : ℕ) (state : F) (begun new : X) (result : Result (Option Mark) E) : Type 0 where
  pub found : Result (Unit {0}) E
  pub state_new : F
  pub ended : X
  pub called : CalledWithState calls state begun number found state_new ended
  pub ends : EndsRound makes sleeps found ended new result

-- the body was called until it failed, or all rounds were done, or a cancel came: each call but the last succeeded
pub record Repeats {F X E : Type 0} (calls : Mut F (MutBor X × (ℕ × Unit {0})) (Result (Unit {0}) E × (MutBor X × Unit {0}))) (sleeps : X → X → Result (Option Mark) Refusal → Type 0) (makes : Refusal → E → Type 0) (rounds : ℕ) (body : F) (old new : X) (result : Result (Option Mark) E) : Type 0 where
  pub number : ℕ
  pub state : F
  pub begun : X
  pub repeated : Repeated calls sleeps body old number state begun
  pub within : number ≤ rounds
  pub ends : ((number ≡ rounds) × (result ≡ Ok None) × (new ≡ begun)) ⊎ LastRound calls sleeps makes number state begun new result
