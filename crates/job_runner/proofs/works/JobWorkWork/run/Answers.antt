use Rattle.job_runner.specs.{has_open}
use Rattle.job_runner.proofs.Words.{subst}
use Rattle.job_runner.proofs.Ended.{ends_as_may}
use Rattle.job_runner.proofs.works.JobWorkWork.run.Goals as goal

pub returns-clause-ended : goal.returns-clause-ended
returns-clause-ended g c =
    ends_as_may (has_open c.run-end.new.ctx.token) (g.J.Answers.may_end c.args.self.job.job) c.run-end.result c.end_task.result.0
    (subst (λ job. g.J.Answers.may_end job c.run-end.result) c.into_job.ensures.job c.run-end.ensures) c.end_task.ensures.ended
