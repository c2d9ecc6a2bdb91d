-- Nothing was found so far.
use Rattle.std.specs.Prelude.{◌≡◌}
use Rattle.scope_model.specs.{None, earliest, has_failed, has_succeeded, readable_at}
use Rattle.scope_model.proofs.Words.{cond}
use Rattle.scope_model.proofs.scan.view.HistoryView.first_read.Given as goal

abbrev pub invariant-loop-place : goal.invariant-loop-place
invariant-loop-place l = earliest (readable_at (cond l.failed has_failed has_succeeded) l.self l.scope) l.place ≡ None
