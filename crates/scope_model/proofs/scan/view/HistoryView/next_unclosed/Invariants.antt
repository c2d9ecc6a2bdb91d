-- Nothing was found so far.
use Rattle.std.specs.Prelude.{◌≡◌}
use Rattle.scope_model.specs.{None, earliest, unclosed_after}
use Rattle.scope_model.proofs.scan.view.HistoryView.next_unclosed.Given as goal

abbrev pub invariant-loop-count : goal.invariant-loop-count
invariant-loop-count l = earliest (unclosed_after l.self l.actor l.scope) l.count ≡ None
