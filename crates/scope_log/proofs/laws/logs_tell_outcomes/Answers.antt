use Rattle.scope_log.proofs.LogTells.{tells_next, tells_outcome}
use Rattle.scope_log.proofs.laws.logs_tell_outcomes.Goals as goal

pub returns-clause-joined : goal.returns-clause-joined
returns-clause-joined c = tells_outcome

pub returns-clause-next : goal.returns-clause-next
returns-clause-next c = tells_next
