use Rattle.share_ledger.proofs.Told.{seen_tells}
use Rattle.share_ledger.proofs.laws.seen_tickets_tell.Goals as goal

pub returns : goal.returns
returns c = seen_tells
