use Rattle.command_line.specs.{App, all_jobs, scopectl, with_jobs}
use Rattle.command_line.proofs.Words.{◌∙◌, IfOk-weaker, ap}
use Rattle.command_line.proofs.application.application.Goals as goal

pub returns : goal.returns
unfolding scopectl
returns c = IfOk-weaker c.with_jobs.result _ _ (λ m h. h ∙ ap (λ (a : App). with_jobs a all_jobs) c.in_ok-bare.ensures) c.with_jobs.ensures
