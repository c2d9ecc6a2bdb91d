use Rattle.share_ledger.proofs.Ends.{tells_history}
use Rattle.share_ledger.proofs.laws.tickets_tell_stages.Goals as goal

pub returns : goal.returns
returns c = tells_history
