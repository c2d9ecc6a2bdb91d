use Rattle.command_line.proofs.Words.{length}
use Rattle.command_line.proofs.application.+with_jobs.Given as goal

abbrev pub decreases-with_jobs : goal.decreases-with_jobs
decreases-with_jobs l = length l.jobs.now
