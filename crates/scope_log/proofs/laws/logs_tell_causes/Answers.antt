use Rattle.scope_log.proofs.LogTells.{tells_cause}
use Rattle.scope_log.proofs.laws.logs_tell_causes.Goals as goal

pub returns : goal.returns
returns c = tells_cause
