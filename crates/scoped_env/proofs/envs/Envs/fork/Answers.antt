-- The new task inherits all that its forker sees.
use Rattle.scoped_env.proofs.Words.{arith, common_steps}
use Rattle.scoped_env.proofs.Steps.{fork_agrees}
use Rattle.scoped_env.proofs.envs.Envs.fork.Goals as goal

pub returns-clause-kept : goal.returns-clause-kept
returns-clause-kept c = grind (arith, common_steps)

pub returns-clause-agrees : goal.returns-clause-agrees
returns-clause-agrees c =
    λ L h scope label legal agrees. fork_agrees L h _ _ _ scope label legal c.requires (returns-clause-kept c) agrees
