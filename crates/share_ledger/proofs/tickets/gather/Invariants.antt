use Rattle.std.proofs.Common.{◌≡◌, take}
use Rattle.share_ledger.specs.{finished_count, given_count, started_count, sum_by}
use Rattle.share_ledger.proofs.tickets.gather.Given as goal

abbrev pub invariant-loop-ticket : goal.invariant-loop-ticket
invariant-loop-ticket l = record {
  given : l.totals.given ≡ sum_by given_count (take l.ticket-index l.tickets);
  started : l.totals.started ≡ sum_by started_count (take l.ticket-index l.tickets);
  finished : l.totals.finished ≡ sum_by finished_count (take l.ticket-index l.tickets);
}
