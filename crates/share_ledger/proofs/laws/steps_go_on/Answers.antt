use Rattle.share_ledger.proofs.Histories.{goes_on}
use Rattle.share_ledger.proofs.laws.steps_go_on.Goals as goal

pub returns : goal.returns
returns c = goes_on
