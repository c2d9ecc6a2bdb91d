use Rattle.share_ledger.proofs.Histories.{legal_history}
use Rattle.share_ledger.proofs.laws.histories_are_legal.Goals as goal

pub returns : goal.returns
returns c = legal_history
