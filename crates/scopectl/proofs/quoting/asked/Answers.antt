use Rattle.scopectl.proofs.Words.{IfErr-weaker}
use Rattle.scopectl.proofs.quoting.asked.Goals as goal

pub returns-clause-fault : goal.returns-clause-fault
returns-clause-fault g c = λ timed lacks.
    IfErr-weaker c.answer_seen.result _ _ (λ fault it. it (λ strange. c.serve_in-found.ensures.strange.0 strange c.requires.labelled)) (c.answer_seen.ensures.fault timed lacks)
