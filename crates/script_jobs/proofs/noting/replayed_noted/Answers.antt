-- The script is one of these limits.
use Rattle.script_jobs.proofs.Words.{IfOk-weaker, on_err_weaker}
use Rattle.script_jobs.proofs.noting.replayed_noted.Goals as goal

pub returns-clause-ok : goal.returns-clause-ok
returns-clause-ok g c = IfOk-weaker c.read_pieces.result _ _ (λ count it. it c.args.limits c.new-script.ensures.plain) c.read_pieces.ensures.ok

pub returns-clause-fault : goal.returns-clause-fault
returns-clause-fault g c = on_err_weaker c.read_pieces.result (λ it. it c.args.limits c.new-script.ensures.plain) c.read_pieces.ensures.fault
