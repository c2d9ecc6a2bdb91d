-- No event so far gave the scope its own cancel.
use Rattle.std.specs.Prelude.{◌≡◌}
use Rattle.scope_model.specs.{None, earliest, own_at}
use Rattle.scope_model.proofs.scan.view.HistoryView.own.Given as goal

abbrev pub invariant-loop-place : goal.invariant-loop-place
invariant-loop-place l = earliest (own_at l.self l.scope) l.place ≡ None
