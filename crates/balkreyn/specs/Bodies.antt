-- What a body did that was run in a scope of its own: a scope that was opened for it, and closed behind it.
-- Said is what was opened and closed, whichever way the body went, and what is answered. Of what the body did in
-- between just what its own contract says; a closure without clauses has the one that is found from its code.
use Rattle.std.specs.Prelude.{ℕ, ◌≡◌, ◌⊎◌, Bool, Err, IsErrAnd, IsOk, None, Ok, Result, false, true}
use Rattle.balkreyn.specs.Words.{ClosesBare, DoesInRoom, FoundUnsettled, Happened, IsOpenOf, MutBor, Once, Open, Options, OwnerValue, Plain, Policy, Refusal, SeesMore, StaysUnclosed, Verdict, Violated, WaitsToClose, history_seen}
use Rattle.balkreyn.specs.Words.{next_scope}
use Rattle.scope_rules.specs.declared.types.answers.Verdict.TheVariants as how
use Rattle.scope_rules.specs.declared.types.refusals.Refusal.TheVariants as refused

-- what an open with such a joiner and such options did, and answered: in the history that the token has seen, and
-- `leaves` says what of the rest of its context; nothing else of the token has changed
abbrev pub Opens : {X : Type 0} → (X → OwnerValue) → (X → X → Result ℕ Refusal → Type 0) → Policy → Options → X → X → Result ℕ Refusal → Type 0
Opens token leaves policy options old new result = DoesInRoom (token old) (token new) (Happened (Open (token old).actor policy options)) next_scope result × SeesMore (token old) (token new) × leaves old new result

-- what a close of scope s without a report did, and answered, in the same words: it is not refused if the token
-- shows the scope as its actor's, and not closed
abbrev pub Closes : {X : Type 0} → (X → OwnerValue) → (X → X → ℕ → Result Verdict Refusal → Type 0) → X → X → ℕ → Result Verdict Refusal → Type 0
Closes token leaves old new s result = ClosesBare (token old) (token new) s result × (IsOpenOf (history_seen (token old)) (token old).actor s → IsOk result) × SeesMore (token old) (token new) × leaves old new s result

-- the wait by a clock that comes before the close of scope s: it began the close, and came back once no task of what
-- that covers waited or ran; or the close could not begin, or a tick was refused
abbrev pub WaitsFirst : {K : Type 0} → (K → K → ℕ → Type 0) → OwnerValue → OwnerValue → K → K → ℕ → Result (Unit {0}) Refusal → Type 0
WaitsFirst reads old there start last s (Ok done) = WaitsToClose reads old there start last s × FoundUnsettled (history_seen there) s None
WaitsFirst reads old there start last s (Err refusal) = StaysUnclosed reads old there start last s refusal

-- what a close of scope s by a clock did, and answered: it waited so, and then it was closed as one is without a
-- clock, also if a tick was refused
pub record ClosesBy {K : Type 0} (reads : K → K → ℕ → Type 0) (old new : OwnerValue) (start last : K) (s : ℕ) (result : Result Verdict Refusal) : Type 0 where
  pub there : OwnerValue
  pub waited : Result (Unit {0}) Refusal
  pub waits : WaitsFirst reads old there start last s waited
  pub closes : ClosesBare there new s result

-- the same with what it left of the rest of the context; it is not refused if one without a clock isn't
abbrev pub ClosesInTime : {X K : Type 0} → (X → OwnerValue) → (X → X → ℕ → Result Verdict Refusal → Type 0) → (K → K → ℕ → Type 0) → X → X → K → K → ℕ → Result Verdict Refusal → Type 0
ClosesInTime token leaves reads old new start last s result = ClosesBy reads (token old) (token new) start last s result × (IsOpenOf (history_seen (token old)) (token old).actor s → IsOk result) × SeesMore (token old) (token new) × leaves old new s result

-- what one did by this clock, wherever that stood then
abbrev pub ClosesFrom : {X K : Type 0} → (X → OwnerValue) → (X → X → ℕ → Result Verdict Refusal → Type 0) → (K → K → ℕ → Type 0) → K → X → X → ℕ → Result Verdict Refusal → Type 0
ClosesFrom {K = K} token leaves reads start old new s result = (last : K) × ClosesInTime token leaves reads old new start last s result

-- what is answered if the body found this, and the close of its scope answered that: a refused close comes
-- first, with an error that `makes` says of its refusal, and else it is just what the body found
abbrev pub Settles : {T E : Type 0} → (Refusal → E → Type 0) → Result T E → Result Verdict Refusal → Result T E → Type 0
Settles makes found (Ok how) result = result ≡ found
Settles makes found (Err refusal) result = IsErrAnd result (makes refusal)

-- the same of a body that may owe a join: one that succeeded, and forked without a join, fails
abbrev pub SettlesOwing : {T E : Type 0} → (Refusal → E → Type 0) → (owes : Bool) → Result T E → Result Verdict Refusal → Result T E → Type 0
SettlesOwing makes owes found (Err refusal) result = IsErrAnd result (makes refusal)
SettlesOwing makes owes (Err error) (Ok how) result = result ≡ Err error
SettlesOwing makes false (Ok value) (Ok how) result = result ≡ Ok value
SettlesOwing makes true (Ok value) (Ok Plain) result = result ≡ Ok value
SettlesOwing makes true (Ok value) (Ok Violated) result = result ≡ Ok value
SettlesOwing makes true (Ok value) (Ok how.NotJoined) result = IsErrAnd result (makes refused.NotJoined)

-- the body was called with a context and the number of scope s, and by its own contract it may have found this
-- then, and left that context
pub record Ran {F X T E : Type 0} (calls : Once F (MutBor X × (ℕ × Unit {0})) (Result T E × (MutBor X × Unit {0}))) (body : F) (s : ℕ) (begun ended : X) (found : Result T E) : Type 0 where
  pub lent : MutBor X
  pub given : lent.now ≡ begun
  pub back : MutBor X
  pub left : back.now ≡ ended
  pub met : calls.post body (lent, (s, tt)) (found, (back, tt))

-- the open was refused, and what is answered is made of just its refusal: nothing is opened, and nothing was done
-- behind it
pub record StaysOut {X T E : Type 0} (opens : X → X → Result ℕ Refusal → Type 0) (makes : Refusal → E → Type 0) (old new : X) (result : Result T E) : Type 0 where
  pub refusal : Refusal
  pub refused : opens old new (Err refusal)
  pub answers : IsErrAnd result (makes refusal)

-- first a scope was opened, then the body ran with its number, and last a close of just this scope was done,
-- whatever the body had found. So if the answer is Ok, both were, and it is the body's; `owes` says whether the body owed
-- a join, as far as that is told
pub record RunsInside {F X T E : Type 0} (opens : X → X → Result ℕ Refusal → Type 0) (closes : X → X → ℕ → Result Verdict Refusal → Type 0) (owes : Bool → Type 0) (makes : Refusal → E → Type 0) (calls : Once F (MutBor X × (ℕ × Unit {0})) (Result T E × (MutBor X × Unit {0}))) (body : F) (old new : X) (result : Result T E) : Type 0 where
  pub scope : ℕ
  pub begun : X
  pub ended : X
  pub found : Result T E
  pub closed : Result Verdict Refusal
  pub opened : opens old begun (Ok scope)
  pub ran : Ran calls body scope begun ended found
  pub shut : closes ended new scope closed
  pub owed : Bool
  pub told : owes owed
  pub answers : SettlesOwing makes owed found closed result

-- what was done that runs the body within a scope: one of these two, and there is no third. `makes` says what
-- error may be made of a refusal
abbrev pub RunsWithin : {F X T E : Type 0} → (X → X → Result ℕ Refusal → Type 0) → (X → X → ℕ → Result Verdict Refusal → Type 0) → (Bool → Type 0) → (Refusal → E → Type 0) → Once F (MutBor X × (ℕ × Unit {0})) (Result T E × (MutBor X × Unit {0})) → F → X → X → Result T E → Type 0
RunsWithin opens closes owes makes calls body old new result = StaysOut opens makes old new result ⊎ RunsInside opens closes owes makes calls body old new result
