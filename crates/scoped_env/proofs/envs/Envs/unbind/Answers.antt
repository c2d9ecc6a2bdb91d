-- The actor's last own pair is gone, and nothing else changed.
use Rattle.scoped_env.proofs.Words.{arith, common_steps, rules}
use Rattle.scoped_env.proofs.Steps.{unbind_agrees}
use Rattle.scoped_env.proofs.envs.Envs.unbind.Goals as goal

pub returns-then-actor-eq-MAIN-clause-agrees : goal.returns-then-actor-eq-MAIN-clause-agrees
returns-then-actor-eq-MAIN-clause-agrees c = λ h agrees. unbind_agrees h _ _ _ c.requires (search rules) agrees

pub returns-else-actor-eq-MAIN-clause-agrees : goal.returns-else-actor-eq-MAIN-clause-agrees
returns-else-actor-eq-MAIN-clause-agrees c = λ h agrees. unbind_agrees h _ _ _ c.requires (grind (arith, common_steps)) agrees
