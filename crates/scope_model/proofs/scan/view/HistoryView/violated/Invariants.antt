-- Whether one of the events so far began the close of the scope and covered another.
use Rattle.std.specs.Prelude.{◌≡◌}
use Rattle.scope_model.specs.{some_below, violating_at}
use Rattle.scope_model.proofs.scan.view.HistoryView.violated.Given as goal

abbrev pub invariant-loop-place : goal.invariant-loop-place
invariant-loop-place l = l.found ≡ some_below (violating_at l.self l.scope) l.place
