use Rattle.share_ledger.specs.{TicketValue, finished_in, given_in, started_in}
use Rattle.share_ledger.proofs.Words.{arith}
use Rattle.share_ledger.proofs.Sums.{one_at_most, sum_bounded}
use Rattle.share_ledger.proofs.tickets.gather.Goals as goal

pub overflow_add-totals : goal.overflow_add-totals
overflow_add-totals c =
    omega (arith, sum_bounded (λ (t : TicketValue). given_in t.task t.seen) c.args.tickets.now c.loop-ticket.ticket-index (omega arith), one_at_most (given_in c.ticket-item.result.task c.ticket-item.result.seen), c.given.ensures, c.loop-ticket.invariant.given)

pub overflow_add-totals-in-loop-ticket : goal.overflow_add-totals-in-loop-ticket
overflow_add-totals-in-loop-ticket c =
    omega (arith, sum_bounded (λ (t : TicketValue). started_in t.task t.seen) c.args.tickets.now c.loop-ticket.ticket-index (omega arith), one_at_most (started_in c.ticket-item.result.task c.ticket-item.result.seen), c.started.ensures, c.loop-ticket.invariant.started)

pub overflow_add-totals-in-loop-ticket-2 : goal.overflow_add-totals-in-loop-ticket-2
overflow_add-totals-in-loop-ticket-2 c =
    omega (arith, sum_bounded (λ (t : TicketValue). finished_in t.task t.seen) c.args.tickets.now c.loop-ticket.ticket-index (omega arith), one_at_most (finished_in c.ticket-item.result.task c.ticket-item.result.seen), c.finished.ensures, c.loop-ticket.invariant.finished)
