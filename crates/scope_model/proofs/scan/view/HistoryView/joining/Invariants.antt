-- Nothing was found so far.
use Rattle.std.specs.Prelude.{◌≡◌}
use Rattle.scope_model.specs.{None, earliest, joining_at}
use Rattle.scope_model.proofs.scan.view.HistoryView.joining.Given as goal

abbrev pub invariant-loop-place : goal.invariant-loop-place
invariant-loop-place l = earliest (joining_at l.self l.scope) l.place ≡ None
