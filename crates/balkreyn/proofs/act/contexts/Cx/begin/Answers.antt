use Rattle.balkreyn.specs.{Before, Err}
use Rattle.balkreyn.proofs.Words.{ap, inr, refl}
use Rattle.balkreyn.proofs.Tried.{tries}
use Rattle.balkreyn.proofs.act.contexts.Cx.begin.Goals as goal

-- there may be no more, or there was no memory for its share, and nothing was begun
pub returns-in-Err-clause-tried : goal.returns-in-Err-clause-tried
returns-in-Err-clause-tried g c = record {
  reply = Err c.in-Err.refusal;
  forks = record { why = Before c.in-Err.refusal; forks = inr (record { same = refl; memory = c.in-Err.ensures.shared }); numbered = refl };
}

pub returns-in-Ok-fork_job-clause-tried : goal.returns-in-Ok-fork_job-clause-tried
returns-in-Ok-fork_job-clause-tried g c = tries c.fork_job.result (ap (λ job. job.label) c.new.ensures) c.fork_job.ensures.answer

pub returns-in-Err-Before-TooMany-default-clause-tried : goal.returns-in-Err-Before-TooMany-default-clause-tried
returns-in-Err-Before-TooMany-default-clause-tried g c = tries c.fork_job.result (ap (λ job. job.label) c.new.ensures) c.fork_job.ensures.answer

pub returns-in-Err-fork_job-clause-tried : goal.returns-in-Err-fork_job-clause-tried
returns-in-Err-fork_job-clause-tried g c = tries c.fork_job.result (ap (λ job. job.label) c.new.ensures) c.fork_job.ensures.answer
