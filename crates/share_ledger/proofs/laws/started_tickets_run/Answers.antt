use Rattle.share_ledger.proofs.Waits.{started_ticket_runs}
use Rattle.share_ledger.proofs.laws.started_tickets_run.Goals as goal

pub returns : goal.returns
returns c = started_ticket_runs
