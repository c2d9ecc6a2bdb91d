-- Whether one of the pairs so far differs.
use Rattle.std.specs.Prelude.{◌≡◌}
use Rattle.scope_model.specs.{differ_at, some_below, stack}
use Rattle.scope_model.proofs.scan.view.HistoryView.has_same_pairs.Given as goal

abbrev pub invariant-loop-index : goal.invariant-loop-index
invariant-loop-index l = l.differ ≡ some_below (differ_at (stack l.self l.actor) (stack l.then l.actor)) l.index
