use Rattle.script_jobs.specs.{realm_of}
use Rattle.script_jobs.proofs.Runs.{replayed}
use Rattle.script_jobs.proofs.replaying.replayed.Goals as goal

pub returns-in-Ok-clause-ok : goal.returns-in-Ok-clause-ok
returns-in-Ok-clause-ok g c = replayed _ _ _ _ _ (realm_of c.in-Ok.ran.book) _ c.count_of.result c.in-Ok.ensures.ok c.count_of.ensures
