-- What holds of every history, in the words of scopes and cancels.
use Rattle.std.specs.Prelude.{ℕ, ◌<◌, ◌∷◌, ◌≡◌, ◌≤◌, Some, length}
use Rattle.scope_rules.specs.Words.{Cause, Event, Forking, Limits, Opening, OwnCancel, option_or}
use Rattle.scope_rules.specs.{Cancels.cause, Cancels.first_cancel, Cancels.own, Cancels.own_at, Cancels.own_cancel, Chains.onward, Earliest.IsEarliest, History.History, History.followed, History.forking, History.opening}
use Rattle.scope_rules.specs.{History.scopes, History.tasks, Legal.Legal, Scopes.chain, Scopes.outer}

-- an own cancel never moves once it is set
abbrev pub OwnCancelStays : Type 0
OwnCancelStays = (h : History) (e : Event) (s : ℕ) (w : OwnCancel) → own h s ≡ Some w → own (followed h e) s ≡ Some w

-- one event more gives an own cancel to a scope that had none, or leaves it as it was
abbrev pub OwnCancelGrows : Type 0
OwnCancelGrows = (h : History) (e : Event) (s : ℕ) → own (followed h e) s ≡ option_or (own h s) (own_at (followed h e) s (length h.events))

-- the first cancel is the earliest own cancel on the chain, the nearest on a tie; if there is none, no
-- scope of the chain has an own cancel
abbrev pub FirstCancelIsEarliest : Type 0
FirstCancelIsEarliest = (h : History) (s : ℕ) → IsEarliest (own_cancel h) (chain h s) (first_cancel h s)

-- the chain of a scope is the scope and the chain of its outer scope
abbrev pub ChainGoesOutwards : Type 0
ChainGoesOutwards = (L : Limits) (h : History) (s : ℕ) → Legal L h → chain h s ≡ s ∷ onward (outer h s) (chain h)

-- an outer scope has a smaller number
abbrev pub OuterIsSmaller : Type 0
OuterIsSmaller = (L : Limits) (h : History) (s p : ℕ) → Legal L h → outer h s ≡ Some p → (1 ≤ p) × (p < s)

-- a cancelled scope stays cancelled, with its cause
abbrev pub CauseStays : Type 0
CauseStays = (L : Limits) (h : History) (e : Event) (s : ℕ) (c : Cause) → Legal L h → cause h s ≡ Some c → cause (followed h e) s ≡ Some c

-- numbers of scopes and tasks never fall
abbrev pub NumbersNeverFall : Type 0
NumbersNeverFall = (h : History) (e : Event) → (scopes h ≤ scopes (followed h e)) × (tasks h ≤ tasks (followed h e))

-- a number once given stays with its opening
abbrev pub ScopeNumberStays : Type 0
ScopeNumberStays = (h : History) (e : Event) (s : ℕ) (o : Opening) → opening h s ≡ Some o → opening (followed h e) s ≡ Some o

-- a number once given stays with its forking
abbrev pub TaskNumberStays : Type 0
TaskNumberStays = (h : History) (e : Event) (k : ℕ) (f : Forking) → forking h k ≡ Some f → forking (followed h e) k ≡ Some f

-- one opening has one number
abbrev pub ScopeNumberGivenOnce : Type 0
ScopeNumberGivenOnce = (h : History) (s t : ℕ) (o : Opening) → opening h s ≡ Some o → opening h t ≡ Some o → s ≡ t

-- one forking has one number
abbrev pub TaskNumberGivenOnce : Type 0
TaskNumberGivenOnce = (h : History) (k m : ℕ) (f : Forking) → forking h k ≡ Some f → forking h m ≡ Some f → k ≡ m
