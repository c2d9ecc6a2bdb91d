use Rattle.job_runner.specs.{began}
use Rattle.job_runner.proofs.timed.wait_around_by.Goals as goal

pub returns-in-None-None-clause-answer : goal.returns-in-None-None-clause-answer
returns-in-None-None-clause-answer g c = began
