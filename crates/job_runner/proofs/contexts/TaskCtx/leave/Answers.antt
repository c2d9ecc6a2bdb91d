use Rattle.job_runner.specs.{NothingOpen, OwnerValue}
use Rattle.job_runner.proofs.Words.{subst, sym}
use Rattle.job_runner.proofs.Ended.{leaves_nothing}
use Rattle.job_runner.proofs.contexts.TaskCtx.leave.Goals as goal

pub returns-clause-over : goal.returns-clause-over
returns-clause-over g c = leaves_nothing c.into_held.result (subst (λ (t : OwnerValue). NothingOpen t) (sym c.into_held.ensures.same) c.close_what_is_open.ensures.closed)
