use Rattle.tree_dump.proofs.TimedAdds.{timed_adds}
use Rattle.tree_dump.proofs.laws.timed_adds.Goals as goal

pub returns : goal.returns
returns c = timed_adds
