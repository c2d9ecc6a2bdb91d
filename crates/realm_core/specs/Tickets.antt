-- Which tickets a close with a report is handed.
use Rattle.std.specs.Prelude.{ℕ, ◌&&◌, ◌+◌, ◌==◌, ◌≡◌, ◌≤◌, ◌⊎◌, Bool, List, None, Option, Some, count_by, false, length, not, slice_get, take, true}
use Rattle.realm_core.specs.Words.{Agrees, All, History, RealmStep, TicketOf, TicketValue, covers, finished_in, forking, grant_in, is_never, is_task_of, one_if, option_map_or, stage}

-- task k was given a thread
abbrev pub got_thread : History → ℕ → Bool
got_thread h k = not (is_never (stage h k))

-- task k was given a thread, and is one of a scope that the close of scope s covers
unfoldable pub is_due : History → ℕ → ℕ → Bool
is_due h s k = option_map_or (λ f. covers h s f.scope) (forking h k) false && got_thread h k

abbrev pub is_ticket_of : ℕ → TicketValue → Bool
is_ticket_of k t = t.task == k

abbrev pub has_ended : TicketValue → Bool
has_ended t = finished_in t.task t.seen

abbrev pub AllEnded : List TicketValue → Type 0
AllEnded tickets = All (λ (t : TicketValue). has_ended t ≡ true) tickets

-- the tickets of the close of scope s: there is one of each task that got a thread, of those scopes that
-- it covers, and no other; and each has ended
pub record AreTicketsOf (h : History) (s : ℕ) (tickets : List TicketValue) : Type 0 where
  pub each : (k : ℕ) → count_by (is_ticket_of k) tickets ≡ one_if (is_due h s k)
  pub ended : AllEnded tickets

-- the list bears the ticket out: its task was forked so, and what the ticket has seen is a beginning of
-- the list, with all of the task's own steps
pub record BearsOut (steps : List RealmStep) (t : TicketValue) : Type 0 where
  pub granted : grant_in t.task t.seen ≡ Some (record { scope = t.scope; label = t.label })
  pub agrees : Agrees (TicketOf t.task) t.seen steps

-- ---- how they are looked for, in the order of scopes and tasks

abbrev pub is_ended_ticket_of : ℕ → TicketValue → Bool
is_ended_ticket_of k t = is_ticket_of k t && has_ended t

-- from the place on there is no ticket of task k that has ended
abbrev pub IsAbsentFrom : List TicketValue → ℕ → ℕ → Type 0
IsAbsentFrom tickets place k = (i : ℕ) (t : TicketValue) → place ≤ i → slice_get tickets i ≡ Some t → is_ended_ticket_of k t ≡ false

-- the ticket of task k is the one at the place found, and has ended; or there is none
abbrev pub IsFoundFrom : List TicketValue → ℕ → ℕ → Option ℕ → Type 0
IsFoundFrom tickets place k (Some at) = (place ≤ at) × ((t : TicketValue) × (slice_get tickets at ≡ Some t) × (is_ended_ticket_of k t ≡ true))
IsFoundFrom tickets place k None = IsAbsentFrom tickets place k

-- the ticket of task k is at the place, and has ended; or there is none from there on
abbrev pub IsBrought : List TicketValue → ℕ → ℕ → Bool → Type 0
IsBrought tickets place k true = (t : TicketValue) × (slice_get tickets place ≡ Some t) × (is_ended_ticket_of k t ≡ true)
IsBrought tickets place k false = IsAbsentFrom tickets place k

-- the ticket of task k is at the place, if the task got a thread, and then the next place follows; or
-- there is none
abbrev pub MayPlaceOne : History → ℕ → ℕ → List TicketValue → Option ℕ → Type 0
MayPlaceOne h place k tickets (Some next) = ((got_thread h k ≡ false) × (next ≡ place)) ⊎ ((got_thread h k ≡ true) × (next ≡ place + 1) × IsBrought tickets place k true)
MayPlaceOne h place k tickets None = (got_thread h k ≡ true) × IsBrought tickets place k false

-- after the first tickets, up to the next place, are those of the tasks of scope s that got a thread
pub record ArePlaced (h : History) (s first next : ℕ) (old new : List TicketValue) : Type 0 where
  pub above : first ≤ next
  pub within : next ≤ length new
  pub each : (k : ℕ) → count_by (is_ticket_of k) (take next new) ≡ count_by (is_ticket_of k) (take first old) + one_if (is_task_of h s k && got_thread h k)
  pub ended : AllEnded (take first old) → AllEnded (take next new)

-- one of them is missing: it is not among the tickets up to the place beside the first, nor later
pub record IsMissing (h : History) (s first : ℕ) (old new : List TicketValue) : Type 0 where
  pub task : ℕ
  pub of : is_task_of h s task ≡ true
  pub got : got_thread h task ≡ true
  pub place : ℕ
  pub before : count_by (is_ticket_of task) (take place new) ≡ count_by (is_ticket_of task) (take first old)
  pub absent : IsAbsentFrom new place task

abbrev pub MayPlace : History → ℕ → ℕ → List TicketValue → List TicketValue → Option ℕ → Type 0
MayPlace h s first old new (Some next) = ArePlaced h s first next old new
MayPlace h s first old new None = IsMissing h s first old new
