-- How a task ends whose job answered, and what the end of a context leaves.
use Rattle.std.specs.Prelude.{ℕ, ◌≡◌, ◌⊎◌, Bool, Err, None, Some, codes, false, is_some, true}
use Rattle.job_runner.specs.Words.{EndValue, Fault, History, IsLegal, Opening, OwnerValue, TicketValue, closed, end_in, history_seen, innermost, is_settled, opening, stage, text_of}

-- whether the token shows a scope of its actor that is not closed
abbrev pub has_open : OwnerValue → Bool
has_open token = is_some (innermost (history_seen token) token.actor)

-- the token shows none, and its list is legal
pub record NothingOpen (token : OwnerValue) : Type 0 where
  pub none : innermost (history_seen token) token.actor ≡ None
  pub legal : IsLegal token.limits token.seen

-- each scope is closed, and no task waits or runs
pub record IsOver (h : History) : Type 0 where
  pub closed : (s : ℕ) (o : Opening) → opening h s ≡ Some o → closed h s ≡ true
  pub settled : (k : ℕ) → is_settled (stage h k) ≡ true

-- what the end of a context leaves: no scope of its actor, and none at all if that is main
pub record LeavesNothing (token : OwnerValue) : Type 0 where
  pub left : NothingOpen token
  pub over : token.actor ≡ 0 → IsOver (history_seen token)

-- the task ended with the fault of a job that left a scope open
pub record EndedLeftOpen (ticket : TicketValue) : Type 0 where
  pub fault : Fault
  pub text : text_of fault.0 ≡ codes "left-open"
  pub ended : end_in ticket.task ticket.seen ≡ Some (Err fault)

-- the ticket's task ended with that fault if a scope was left open, and else as its job answered
abbrev pub Ended : Bool → EndValue → TicketValue → Type 0
Ended true end ticket = EndedLeftOpen ticket
Ended false end ticket = end_in ticket.task ticket.seen ≡ Some end

-- it ended as the job may, or with that fault
abbrev pub EndsAsMay : (EndValue → Type 0) → TicketValue → Type 0
EndsAsMay may_end ticket = ((end : EndValue) × may_end end × (end_in ticket.task ticket.seen ≡ Some end)) ⊎ EndedLeftOpen ticket
