-- The own pairs that are kept are the actor's.
use Rattle.scoped_env.proofs.Words.{◌∙◌, ap, length, rules}
use Rattle.scoped_env.proofs.Held.{stack_there}
use Rattle.scoped_env.proofs.envs.Envs.stack_len.Goals as goal

pub returns-clause-kept : goal.returns-clause-kept
returns-clause-kept c = search rules

pub returns-clause-agrees : goal.returns-clause-agrees
returns-clause-agrees c = λ h agrees. returns-clause-kept c ∙ ap length (stack_there h _ _ c.requires agrees)
