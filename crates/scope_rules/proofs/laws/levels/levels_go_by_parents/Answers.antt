use Rattle.scope_rules.proofs.{Levels.level_by_parent, Parents.parent_smaller}
use Rattle.scope_rules.proofs.laws.levels.levels_go_by_parents.Goals as goal

pub returns-clause-level : goal.returns-clause-level
returns-clause-level c = level_by_parent

pub returns-clause-smaller : goal.returns-clause-smaller
returns-clause-smaller c = parent_smaller
