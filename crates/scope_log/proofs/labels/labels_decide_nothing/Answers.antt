use Rattle.scope_log.proofs.{Checks.labels_decide_nothing, Checks.legal_without, Unchanged.nothing_is_taken}
use Rattle.scope_log.proofs.labels.labels_decide_nothing.Goals as goal

pub returns-clause-decided : goal.returns-clause-decided
returns-clause-decided c = labels_decide_nothing

pub returns-clause-legal : goal.returns-clause-legal
returns-clause-legal c = legal_without

pub returns-clause-same : goal.returns-clause-same
returns-clause-same c = nothing_is_taken
