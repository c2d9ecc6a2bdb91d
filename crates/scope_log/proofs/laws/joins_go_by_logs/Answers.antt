use Rattle.scope_log.proofs.LogJoins.{joins_go}
use Rattle.scope_log.proofs.laws.joins_go_by_logs.Goals as goal

pub returns : goal.returns
returns c = joins_go
