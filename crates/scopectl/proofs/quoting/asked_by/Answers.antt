use Rattle.scopectl.proofs.Words.{IfErr-weaker, IfOk-weaker}
use Rattle.scopectl.proofs.Quoted.{allowed_by, seen_ok}
use Rattle.scopectl.proofs.quoting.asked_by.Goals as goal

pub returns-clause-fault : goal.returns-clause-fault
returns-clause-fault g c = λ timed lacks.
    IfErr-weaker c.answer_seen.result _ _ (λ fault it. it (λ strange. c.serve_in_by-found.ensures.strange.0 strange c.requires.labelled)) (c.answer_seen.ensures.fault timed lacks)

pub returns-clause-ok : goal.returns-clause-ok
returns-clause-ok g c =
    seen_ok c.answer_seen.result c.serve_in_by-found.result _ c.answer_seen.ensures.ok (IfOk-weaker c.serve_in_by-found.result _ _ (λ a. allowed_by c.args.plan.now _ _ a) c.serve_in_by-found.ensures.allowed)
