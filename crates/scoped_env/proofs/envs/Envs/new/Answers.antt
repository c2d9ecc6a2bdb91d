-- A fresh realm has nothing bound.
use Rattle.scoped_env.proofs.Words.{rules}
use Rattle.scoped_env.proofs.Beginnings.{begins}
use Rattle.scoped_env.proofs.envs.Envs.new.Goals as goal

pub returns-clause-begins : goal.returns-clause-begins
returns-clause-begins c = search rules

pub returns-clause-agrees : goal.returns-clause-agrees
returns-clause-agrees c = begins _ _ (returns-clause-begins c)
