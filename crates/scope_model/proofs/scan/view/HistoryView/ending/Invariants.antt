-- No event so far ended the task.
use Rattle.std.specs.Prelude.{◌≡◌}
use Rattle.scope_model.specs.{None, earliest, ending_at}
use Rattle.scope_model.proofs.scan.view.HistoryView.ending.Given as goal

abbrev pub invariant-loop-place : goal.invariant-loop-place
invariant-loop-place l = earliest (ending_at l.self l.task) l.place ≡ None
