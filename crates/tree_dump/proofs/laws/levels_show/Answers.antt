use Rattle.tree_dump.proofs.ShowsLevels.{levels_show, root_levels_show}
use Rattle.tree_dump.proofs.laws.levels_show.Goals as goal

pub returns-clause-named : goal.returns-clause-named
returns-clause-named c = levels_show

pub returns-clause-root : goal.returns-clause-root
returns-clause-root c = root_levels_show
