-- Main's pairs stay.
use Rattle.scoped_env.proofs.Words.{rules}
use Rattle.scoped_env.proofs.Beginnings.{restarts}
use Rattle.scoped_env.proofs.envs.Envs.reset.Goals as goal

pub returns-clause-kept : goal.returns-clause-kept
returns-clause-kept c = search rules

pub returns-clause-agrees : goal.returns-clause-agrees
returns-clause-agrees c = λ h agrees number. restarts h _ _ _ (returns-clause-kept c) number agrees
