use Rattle.balkreyn.specs.{Before, Memory}
use Rattle.balkreyn.proofs.Words.{inr, refl}
use Rattle.balkreyn.proofs.act.contexts.Cx.fork_part.Goals as goal

-- there was no memory for its share, and nothing was begun
pub returns-in-Err-clause-answer : goal.returns-in-Err-clause-answer
returns-in-Err-clause-answer g c = record { why = Before Memory; forks = inr (record { same = refl; memory = refl }); numbered = refl }
