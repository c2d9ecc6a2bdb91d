-- Each turn takes the first deadline that is due out of the index, and cancels its scope.
use Rattle.std.proofs.Common.{◌≡◌}
use Rattle.scope_index.proofs.Passing.{IsPassing}
use Rattle.std.specs.FinMap as map
use Rattle.scope_index.proofs.cancels.CancelIndex.tick.Given as goal

abbrev pub invariant-loop-row : goal.invariant-loop-row
invariant-loop-row l =
    IsPassing l.fn.now l.fn.place l.initial.self-inside.deadlines l.self-inside.deadlines l.initial.self-inside.tree l.self-inside.tree
    × ((l.self-inside.before ≡ l.initial.self-inside.before) × (l.self-inside.accounts.items ≡ l.initial.self-inside.accounts.items))

abbrev pub decreases-loop-row : goal.decreases-loop-row
decreases-loop-row l = map.len l.self-inside.deadlines
