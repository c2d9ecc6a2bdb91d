use Rattle.share_ledger.proofs.Waits.{given_ticket_waits}
use Rattle.share_ledger.proofs.laws.given_tickets_wait.Goals as goal

pub returns : goal.returns
returns c = given_ticket_waits
