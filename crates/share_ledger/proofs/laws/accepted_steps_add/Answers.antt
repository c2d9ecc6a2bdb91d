use Rattle.share_ledger.proofs.Histories.{adds}
use Rattle.share_ledger.proofs.laws.accepted_steps_add.Goals as goal

pub returns : goal.returns
returns c = adds
