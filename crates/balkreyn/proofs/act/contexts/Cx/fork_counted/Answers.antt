use Rattle.balkreyn.specs.{Before}
use Rattle.balkreyn.proofs.Words.{inr, refl}
use Rattle.balkreyn.proofs.act.contexts.Cx.fork_counted.Goals as goal

-- there may be no more, or there was no memory for its share, and nothing was begun
pub returns-in-Err-clause-answer : goal.returns-in-Err-clause-answer
returns-in-Err-clause-answer g c = record { why = Before c.in-Err.refusal; forks = inr (record { same = refl; memory = c.in-Err.ensures.shared }); numbered = refl }
