-- What the actor's environment finds is what the actor sees.
use Rattle.scoped_env.proofs.Words.{◌∙◌, rules}
use Rattle.scoped_env.proofs.Held.{seen_there}
use Rattle.scoped_env.proofs.envs.Envs.get.Goals as goal

pub returns-clause-kept : goal.returns-clause-kept
returns-clause-kept c = search rules

pub returns-clause-agrees : goal.returns-clause-agrees
returns-clause-agrees c = λ L h legal agrees. returns-clause-kept c ∙ seen_there L h _ _ _ legal c.requires agrees
