use Rattle.share_ledger.proofs.Histories.{tasks_forks}
use Rattle.share_ledger.proofs.laws.tasks_are_forks.Goals as goal

pub returns : goal.returns
returns c = tasks_forks
