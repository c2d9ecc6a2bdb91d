use Rattle.balkreyn.specs.{Before, Memory}
use Rattle.balkreyn.proofs.Words.{inr, refl}
use Rattle.balkreyn.proofs.slots.fork_typed.Goals as goal

-- there was no memory for the place, and nothing was begun
pub returns-in_default-clause-answer : goal.returns-in_default-clause-answer
returns-in_default-clause-answer g c = record { why = Before Memory; forks = inr (record { same = refl; memory = refl }); numbered = refl }
