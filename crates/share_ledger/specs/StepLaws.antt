-- What holds of every list of steps.
use Rattle.std.specs.Prelude.{[], ℕ, ◌++◌, ◌<◌, ◌∷◌, ◌≡◌, Bool, List, None, Option, Some, false, if◌then◌else◌, true}
use Rattle.share_ledger.specs.Words.{EndValue, Ending, Forking, Holder, Legal, Limits, RealmStep, Running, TicketOf, Waiting, cancelled_before, ending, forking, rejected, stage, started, tasks}
use Rattle.share_ledger.specs.{Holders.Adds, Holders.Agrees, Steps.IsLegal, Steps.Passes, Steps.advance, Steps.history_of, Tickets.Grant, Tickets.end_in, Tickets.finished_in, Tickets.forks, Tickets.given_in, Tickets.grant_in}
use Rattle.share_ledger.specs.{Tickets.rejected_in, Tickets.started_in}

-- a beginning of a legal list is legal
abbrev pub BeginningsAreLegal : Type 0
BeginningsAreLegal = (L : Limits) (xs ys : List RealmStep) → IsLegal L (xs ++ ys) → IsLegal L xs

-- the history of a legal list is legal
abbrev pub HistoriesAreLegal : Type 0
HistoriesAreLegal = (L : Limits) (xs : List RealmStep) → IsLegal L xs → Legal L (history_of xs)

-- the list with one step more is legal
pub record GoesOn (L : Limits) (xs : List RealmStep) (x : RealmStep) : Type 0 where
  pub legal : IsLegal L (xs ++ x ∷ [])
  pub history : history_of (xs ++ x ∷ []) ≡ advance (history_of xs) x

-- a legal list goes on by each step that its history accepts
abbrev pub StepsGoOn : Type 0
StepsGoOn = (L : Limits) (xs : List RealmStep) (x : RealmStep) → IsLegal L xs → Passes L (history_of xs) x → GoesOn L xs x

-- the tasks that were numbered so far are the forks of the list
abbrev pub TasksAreForks : Type 0
TasksAreForks = (xs : List RealmStep) → tasks (history_of xs) ≡ forks xs

-- a ticket that was given a thread and isn't started: its task waits, on all that has happened since too
abbrev pub GivenTicketsWait : Type 0
GivenTicketsWait = (L : Limits) (k : ℕ) (seen whole : List RealmStep) → IsLegal L whole → Agrees (TicketOf k) seen whole → given_in k seen ≡ true → started_in k seen ≡ false → stage (history_of whole) k ≡ Waiting

-- a ticket that was given a thread, and is started and not finished: its task runs
abbrev pub StartedTicketsRun : Type 0
StartedTicketsRun = (L : Limits) (k : ℕ) (seen whole : List RealmStep) → IsLegal L whole → Agrees (TicketOf k) seen whole → given_in k seen ≡ true → started_in k seen ≡ true → finished_in k seen ≡ false → stage (history_of whole) k ≡ Running

-- a step that is accepted on a list with which the holder agrees makes a call that adds it
abbrev pub AcceptedStepsAdd : Type 0
AcceptedStepsAdd = (who : Holder) (L : Limits) (seen whole : List RealmStep) (x : RealmStep) → Agrees who seen whole → IsLegal L whole → Passes L (history_of whole) x → Adds who L seen x (whole ++ x ∷ [])

-- the two lists say the same of task k
pub record TellsAlike (k : ℕ) (seen whole : List RealmStep) : Type 0 where
  pub grant : (g : Grant) → grant_in k seen ≡ Some g → grant_in k whole ≡ Some g
  pub rejected : rejected_in k whole ≡ rejected_in k seen
  pub started : started_in k whole ≡ started_in k seen
  pub end : end_in k whole ≡ end_in k seen

-- what a ticket has seen of its task is what the whole list says of it
abbrev pub SeenTicketsTell : Type 0
SeenTicketsTell = (k : ℕ) (seen whole : List RealmStep) → Agrees (TicketOf k) seen whole → TellsAlike k seen whole

-- how a task ended, without the place of its end
abbrev pub end_shown : Option Ending → Option EndValue
end_shown None = None
end_shown (Some e) = Some e.end

-- what a fork gave, by whether its scope was cancelled before
abbrev pub grant_shown : Bool → Forking → Option Grant
grant_shown cancelled f = if cancelled then None else Some (record { scope = f.scope; label = f.label })

-- the whole list says of task k what the history says
pub record TellsHistory (k : ℕ) (xs : List RealmStep) : Type 0 where
  pub grant : (f : Forking) → forking (history_of xs) k ≡ Some f → grant_in k xs ≡ grant_shown (cancelled_before (history_of xs) f.scope f.place) f
  pub rejected : rejected_in k xs ≡ rejected (history_of xs) k
  pub started : started_in k xs ≡ started (history_of xs) k
  pub end : end_in k xs ≡ end_shown (ending (history_of xs) k)

-- of a task that was forked since the last retirement, the list says what the history says
abbrev pub TicketsTellStages : Type 0
TicketsTellStages = (L : Limits) (xs : List RealmStep) (k : ℕ) → IsLegal L xs → (history_of xs).base.tasks < k → TellsHistory k xs
