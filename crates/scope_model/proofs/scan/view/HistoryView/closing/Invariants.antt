-- Whether one of the events so far began a close that covers the scope.
use Rattle.std.specs.Prelude.{◌≡◌}
use Rattle.scope_model.specs.{closing_at, some_below}
use Rattle.scope_model.proofs.scan.view.HistoryView.closing.Given as goal

abbrev pub invariant-loop-place : goal.invariant-loop-place
invariant-loop-place l = l.found ≡ some_below (closing_at l.self l.scope) l.place
