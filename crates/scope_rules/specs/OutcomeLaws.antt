-- What holds of outcomes, whatever comes later.
use Rattle.std.specs.Prelude.{ℕ, ◌≡◌, Ok, Some, true}
use Rattle.scope_rules.specs.Words.{Event, Forking, Outcome}
use Rattle.scope_rules.specs.{History.History, History.followed, History.forking, Outcomes.outcome, Scopes.joined, Table.reading_check}

-- an outcome never changes once it is set
abbrev pub OutcomeStays : Type 0
OutcomeStays = (h : History) (e : Event) (s : ℕ) (o : Outcome) → outcome h s ≡ Some o → outcome (followed h e) s ≡ Some o

-- the task was forked into a scope that is joined
pub record WasJoined (h : History) (k : ℕ) : Type 0 where
  pub forked : Forking
  pub is : forking h k ≡ Some forked
  pub joined : joined h forked.scope ≡ true

-- a value or a fault is read only of a task whose scope is joined
abbrev pub ReadIsJoined : Type 0
ReadIsJoined = (h : History) (a k : ℕ) → reading_check h a k ≡ Ok tt → WasJoined h k
