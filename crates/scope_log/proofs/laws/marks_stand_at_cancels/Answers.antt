use Rattle.scope_log.proofs.MarkPlaces.{marked_logs}
use Rattle.scope_log.proofs.laws.marks_stand_at_cancels.Goals as goal

pub returns : goal.returns
returns c = marked_logs
