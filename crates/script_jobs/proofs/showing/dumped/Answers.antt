use Rattle.script_jobs.specs.{realm_of}
use Rattle.script_jobs.proofs.Words.{IfOk-weaker}
use Rattle.script_jobs.proofs.Runs.{dumped, read_part, unwritten}
use Rattle.script_jobs.proofs.showing.dumped.Goals as goal

pub returns-in-Ok-clause-ok : goal.returns-in-Ok-clause-ok
returns-in-Ok-clause-ok g c =
    IfOk-weaker c.dumped_of_run.result _ _
    (λ s is. dumped _ _ _ _ _ (realm_of c.in-Ok.ran.book) _ _ s.count c.in-Ok.ensures.ok is)
    c.dumped_of_run.ensures.ok

pub returns-in-Err-clause-part : goal.returns-in-Err-clause-part
returns-in-Err-clause-part g c = read_part _ _ _ _ _ c.in-Err.ensures.fault

pub returns-in-Err-clause-unwritten : goal.returns-in-Err-clause-unwritten
returns-in-Err-clause-unwritten g c = unwritten _ _ _ _ _ c.in-Err.ensures.fault
