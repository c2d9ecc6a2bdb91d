-- What contracts see of the keeper, of a token's share and of a ticket.
use Rattle.std.specs.Prelude.{ℕ, ◌&&◌, ◌≡◌, Bool, List, Option, Some, false, if◌then◌else◌, not, true}
use Rattle.share_ledger.specs.Words.{EndValue, Event, Finish, Fork, Holder, Label, LedgerView, Limits, RealmStep, Start, TableId, TicketOf, TokenOf}
use Rattle.share_ledger.specs.{Desks.IsShareOf, Desks.steps_of, Desks.view_of, Holders.Agrees, Holders.is_of_actor, Tickets.end_in, Tickets.finished_in, Tickets.given_in, Tickets.grant_in, Tickets.started_in}

-- the keeper: its realm's table, the limits and the whole list
pub record KeeperValue : Type 0 where
  pub table : TableId
  pub limits : Limits
  pub steps : List RealmStep

-- the share of an actor's token: what of the list it has seen
pub record OwnerValue : Type 0 where
  pub table : TableId
  pub limits : Limits
  pub actor : ℕ
  pub seen : List RealmStep

-- the ticket of a task
pub record TicketValue : Type 0 where
  pub table : TableId
  pub limits : Limits
  pub task : ℕ
  pub scope : ℕ
  pub label : Label
  pub seen : List RealmStep

-- the share is of the keeper's realm, and agrees with the keeper's list
pub record AgreesWith (who : Holder) (limits : Limits) (seen : List RealmStep) (keeper : KeeperValue) : Type 0 where
  pub limited : limits ≡ keeper.limits
  pub agrees : Agrees who seen keeper.steps

abbrev pub OwnerAgrees : OwnerValue → KeeperValue → Type 0
OwnerAgrees share keeper = AgreesWith (TokenOf share.actor) share.limits share.seen keeper

abbrev pub TicketAgrees : TicketValue → KeeperValue → Type 0
TicketAgrees ticket keeper = AgreesWith (TicketOf ticket.task) ticket.limits ticket.seen keeper

-- a fork makes a ticket, and a start and an end are a ticket's too
abbrev pub is_of_ticket : Event → Bool
is_of_ticket (Fork actor scope label) = true
is_of_ticket (Start task) = true
is_of_ticket (Finish task end) = true
is_of_ticket _ = false

-- the event can be recorded with the token of the actor: it is the actor's own and no other's, or what any
-- actor may ask for; and it names nobody
abbrev pub is_recorded_by : ℕ → Event → Bool
is_recorded_by a e = not (is_of_ticket e) && is_of_actor a e

abbrev pub one_if : Bool → ℕ
one_if b = if b then 1 else 0

-- what a ticket says of itself, each 0 or 1
abbrev pub given_count : TicketValue → ℕ
given_count t = one_if (given_in t.task t.seen)

abbrev pub started_count : TicketValue → ℕ
started_count t = one_if (started_in t.task t.seen)

abbrev pub finished_count : TicketValue → ℕ
finished_count t = one_if (finished_in t.task t.seen)

-- a ticket that waits for its thread
pub record IsWaiting (t : TicketValue) : Type 0 where
  pub given : given_in t.task t.seen ≡ true
  pub unstarted : started_in t.task t.seen ≡ false

-- what a ticket keeps: it is its task's share, its task was forked so, and what it says is so in its list
pub record IsTicket (task scope : ℕ) (label : Label) (given started : Bool) (end : Option EndValue) (views : List LedgerView) : Type 0 where
  pub share : IsShareOf views (TicketOf task)
  pub grant : grant_in task (steps_of (view_of views)) ≡ Some (record { scope = scope; label = label })
  pub is_given : given ≡ given_in task (steps_of (view_of views))
  pub is_started : started ≡ started_in task (steps_of (view_of views))
  pub is_ended : end ≡ end_in task (steps_of (view_of views))
