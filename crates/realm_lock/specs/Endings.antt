-- What the end of a task answers, if ticket and token are handed in and handed back.
use Rattle.realm_lock.specs.Words.{EndValue, Err, Finishes, Ok, OwnerValue, Refusal, Result, TicketValue}

-- the ticket says that the end is there; or both are handed back, and the task runs on
abbrev pub Ends : TicketValue → OwnerValue → EndValue → Result TicketValue (Refusal × TicketValue × OwnerValue) → Type 0
Ends ticket token end (Ok new) = Finishes ticket new token end (Ok tt)
Ends ticket token end (Err back) = Finishes ticket back.1 token end (Err (back.0, back.2))
