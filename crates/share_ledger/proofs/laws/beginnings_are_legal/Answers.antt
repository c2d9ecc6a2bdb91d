use Rattle.share_ledger.proofs.Histories.{beginning_legal}
use Rattle.share_ledger.proofs.laws.beginnings_are_legal.Goals as goal

pub returns : goal.returns
returns c = beginning_legal
