-- What a work gives back for the ticket that it was given.
use Rattle.std.specs.Prelude.{◌≡◌, true}
use Rattle.thread_pool.specs.Words.{TableId, TicketValue, finished_in}

-- the last ticket is of the first one's task, which has ended in the realm of this name
pub record Returns (name : TableId) (first last : TicketValue) : Type 0 where
  pub task : last.task ≡ first.task
  pub scope : last.scope ≡ first.scope
  pub label : last.label ≡ first.label
  pub finished : finished_in last.task last.seen ≡ true
  pub named : last.table ≡ name
