-- The pairs from below so far.
use Rattle.std.specs.Prelude.{◌≡◌}
use Rattle.scope_model.specs.{stack, take}
use Rattle.scope_model.proofs.scan.view.HistoryView.stack.Given as goal

abbrev pub invariant-loop-index : goal.invariant-loop-index
invariant-loop-index l = l.pairs.items ≡ take l.index (stack l.self l.actor)
