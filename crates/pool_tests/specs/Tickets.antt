-- A realm in which no scope was opened, and what its tickets say.
use Rattle.std.specs.Prelude.{◌≡◌, ℕ, true, false, Some}
use Rattle.scope_rules.specs.declared.types.values.Label.{Label}
use Rattle.scope_rules.specs.Ends.{EndValue}
use Rattle.scope_rules.specs.History.{tasks, opened_count}
use Rattle.atomic_table.specs.Seated.{TableId}
use Rattle.share_ledger.specs.Steps.{history_of}
use Rattle.share_ledger.specs.Tickets.{given_in, started_in, finished_in, end_in}
use Rattle.share_ledger.specs.Values.{KeeperValue, OwnerValue, TicketValue}

-- the ticket is of the realm of this name, and its task waits for a thread
pub record IsNew (name : TableId) (ticket : TicketValue) : Type 0 where
  pub named : ticket.table ≡ name
  pub given : given_in ticket.task ticket.seen ≡ true
  pub unstarted : started_in ticket.task ticket.seen ≡ false
  pub unended : finished_in ticket.task ticket.seen ≡ false

-- it is the task of this number, which was forked in scope 1
pub record IsForked (task : ℕ) (label : Label) (ticket : TicketValue) : Type 0 where
  pub number : ticket.task ≡ task
  pub inside : ticket.scope ≡ 1
  pub labelled : ticket.label ≡ label

-- the ticket is that of before, whose task has ended so
pub record IsEnded (name : TableId) (first : TicketValue) (end : EndValue) (last : TicketValue) : Type 0 where
  pub named : last.table ≡ name
  pub task : last.task ≡ first.task
  pub scope : last.scope ≡ first.scope
  pub label : last.label ≡ first.label
  pub ended : end_in last.task last.seen ≡ Some end

-- the ticket is that of before, whose task runs now
pub record Runs (name : TableId) (first now : TicketValue) : Type 0 where
  pub named : now.table ≡ name
  pub task : now.task ≡ first.task
  pub scope : now.scope ≡ first.scope
  pub label : now.label ≡ first.label
  pub unended : finished_in now.task now.seen ≡ false

-- keeper and main's share are of that realm, so many tasks were forked, and no scope was opened
pub record IsPlain (name : TableId) (keeper : KeeperValue) (main : OwnerValue) (forked : ℕ) : Type 0 where
  pub kept : keeper.table ≡ name
  pub owned : main.table ≡ name
  pub counted : tasks (history_of keeper.steps) ≡ forked
  pub unopened : opened_count (history_of keeper.steps) ≡ 0
