-- Nothing was found so far.
use Rattle.scope_model.specs.{◌≡◌, None, earliest, unclosed_of}
use Rattle.scope_model.proofs.scan.view.HistoryView.outermost.Given as goal

abbrev pub invariant-loop-count : goal.invariant-loop-count
invariant-loop-count l = earliest (unclosed_of l.self l.actor) l.count ≡ None
