use Rattle.scope_log.proofs.MarkPlaces.{short_logs}
use Rattle.scope_log.proofs.laws.logs_are_short.Goals as goal

pub returns : goal.returns
returns c = short_logs
