-- That a work may be given a ticket is a fact.
use Rattle.std.proofs.Props.{props}
use Rattle.job_runner.specs.Words.{LabelValue, TableId, TicketValue}
use Rattle.job_runner.specs.Forks.{IsReadyFor}

pub ready_is_fact : (name : TableId) (label : LabelValue) (ticket : TicketValue) → IsProp (IsReadyFor name label ticket)
ready_is_fact name label ticket = Prim.hlevel props
