-- The value of the last of the pairs so far that has the key.
use Rattle.std.specs.Prelude.{◌≡◌}
use Rattle.scope_model.specs.{bound_to, stack, take}
use Rattle.scope_model.proofs.scan.view.HistoryView.bound_on_stack.Given as goal

abbrev pub invariant-loop-index : goal.invariant-loop-index
invariant-loop-index l = l.found ≡ bound_to l.key (take l.index (stack l.self l.actor))
