-- The threads that an owner makes, and the tickets of those that it joined.
use Rattle.std.specs.Prelude.{[], ℕ, ◌++◌, ◌<◌, ◌∷◌, ◌≡◌, ◌≤◌, List}
use Rattle.thread_pool.specs.Words.{All, IsPermutation, TableId, TicketValue}
use Rattle.thread_pool.specs.Returns.{Returns}

-- the tickets that the works were given whose threads were not joined, and the tickets that came back of others; and
-- for how many threads more there is room, for their handles and for their tickets
pub record TeamValue : Type 0 where
  pub running : List TicketValue
  pub returned : List TicketValue
  pub handles : ℕ
  pub tickets : ℕ

-- there is room for a thread more, and for its return
abbrev pub HasRoom : TeamValue → Type 0
HasRoom t = (1 ≤ t.handles) × (1 ≤ t.tickets)

-- there is room for so many threads more, and for their returns
abbrev pub HasRoomFor : ℕ → TeamValue → Type 0
HasRoomFor threads t = (threads ≤ t.handles) × (threads ≤ t.tickets)

-- the same threads and tickets, whatever room there is
abbrev pub IsSameTeam : TeamValue → TeamValue → Type 0
IsSameTeam old new = (new.running ≡ old.running) × (new.returned ≡ old.returned)

-- a thread more, whose work was given the ticket
abbrev pub HasThreadMore : TicketValue → TeamValue → TeamValue → Type 0
HasThreadMore first old new = (new.running ≡ old.running ++ first ∷ []) × (new.returned ≡ old.returned)

-- threads more, in the order of the tickets that their works were given
abbrev pub HasThreadsMore : List TicketValue → TeamValue → TeamValue → Type 0
HasThreadsMore firsts old new = (new.running ≡ old.running ++ firsts) × (new.returned ≡ old.returned)

-- no thread is left of scope s, or of one that was opened later
abbrev pub AreJoined : ℕ → TeamValue → Type 0
AreJoined s t = All (λ (first : TicketValue). first.scope < s) t.running

-- nor a ticket of one that was joined
abbrev pub AreGone : ℕ → TeamValue → Type 0
AreGone s t = AreJoined s t × All (λ (last : TicketValue). last.scope < s) t.returned

-- the last tickets are what came back for the first ones, one for one
abbrev pub AreReturns : TableId → List TicketValue → List TicketValue → Type 0
AreReturns name [] [] = Unit {0}
AreReturns name [] (last ∷ lasts) = ⊥
AreReturns name (first ∷ firsts) [] = ⊥
AreReturns name (first ∷ firsts) (last ∷ lasts) = Returns name first last × AreReturns name firsts lasts

-- just the threads of scope s, and of what was opened later, were joined, and each gave back its own ticket
pub record Joins (name : TableId) (s : ℕ) (old new : TeamValue) : Type 0 where
  pub none : AreJoined s new
  pub joined : List TicketValue
  pub given : List TicketValue
  pub were : IsPermutation old.running (joined ++ new.running)
  pub from : All (λ (first : TicketValue). s ≤ first.scope) joined
  pub returns : AreReturns name joined given
  pub kept : new.returned ≡ old.returned ++ given

-- of all tickets those of scope s, and of what was opened later, and the others
pub record ArePartedAt (s : ℕ) (all tickets others : List TicketValue) : Type 0 where
  pub same : IsPermutation all (tickets ++ others)
  pub from : All (λ (t : TicketValue). s ≤ t.scope) tickets
  pub below : All (λ (t : TicketValue). t.scope < s) others
