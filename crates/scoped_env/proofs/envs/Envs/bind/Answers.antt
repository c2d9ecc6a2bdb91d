-- The pair stands above the actor's own, and nothing else changed.
use Rattle.scoped_env.proofs.Words.{arith, common_steps, rules}
use Rattle.scoped_env.proofs.Steps.{bind_agrees}
use Rattle.scoped_env.proofs.envs.Envs.bind.Goals as goal

pub returns-then-actor-eq-MAIN-clause-kept : goal.returns-then-actor-eq-MAIN-clause-kept
returns-then-actor-eq-MAIN-clause-kept c = search rules

pub returns-else-actor-eq-MAIN-clause-kept : goal.returns-else-actor-eq-MAIN-clause-kept
returns-else-actor-eq-MAIN-clause-kept c = grind (arith, common_steps)

pub returns-then-actor-eq-MAIN-clause-agrees : goal.returns-then-actor-eq-MAIN-clause-agrees
returns-then-actor-eq-MAIN-clause-agrees c =
    bind_agrees c.bind.result _ _ _ _ c.requires (returns-then-actor-eq-MAIN-clause-kept c)

pub returns-else-actor-eq-MAIN-clause-agrees : goal.returns-else-actor-eq-MAIN-clause-agrees
returns-else-actor-eq-MAIN-clause-agrees c =
    bind_agrees c.bind-else-actor-eq-MAIN.result _ _ _ _ c.requires (returns-else-actor-eq-MAIN-clause-kept c)
