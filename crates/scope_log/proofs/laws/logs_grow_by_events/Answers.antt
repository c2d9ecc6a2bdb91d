use Rattle.scope_log.proofs.NewLogs.{log_grows}
use Rattle.scope_log.proofs.laws.logs_grow_by_events.Goals as goal

pub returns : goal.returns
returns c = log_grows
