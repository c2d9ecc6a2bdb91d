-- The tree shows each once.
use Rattle.tree_dump.proofs.Lying.{shows_once}
use Rattle.tree_dump.proofs.laws.tree_shows_each_once.Goals as goal

pub returns : goal.returns
returns c = shows_once
