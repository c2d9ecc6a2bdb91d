-- The latest of the scopes so far.
use Rattle.std.specs.Prelude.{◌≡◌}
use Rattle.scope_model.specs.{latest, unclosed_of}
use Rattle.scope_model.proofs.scan.view.HistoryView.innermost.Given as goal

abbrev pub invariant-loop-count : goal.invariant-loop-count
invariant-loop-count l = l.found ≡ latest (unclosed_of l.self l.actor) l.count
