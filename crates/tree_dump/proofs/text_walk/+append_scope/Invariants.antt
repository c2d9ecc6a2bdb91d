-- The tasks before the index have their lines.
use Rattle.std.proofs.Common.{◌++◌, ◌+◌, ◌-◌, ◌≡◌, string_bytes, take}
use Rattle.tree_dump.specs.{TextTree.nested, clock_of, scope_line, tasks_of}
use Rattle.tree_dump.proofs.TextWalked.{tasks_lines}
use Rattle.tree_dump.proofs.text_walk.+append_scope.Given as goal

abbrev pub decreases-append_scope : goal.decreases-append_scope
decreases-append_scope g l = l.levels

abbrev pub invariant-loop-index : goal.invariant-loop-index
invariant-loop-index g l =
    let h = g.R.Readings.history l.readings in
    string_bytes l.text ≡ string_bytes l.fn.text ++ (scope_line (clock_of l.ages) h l.fn.depth l.info ++ tasks_lines (clock_of l.ages) h (nested (clock_of l.ages) h (l.fn.levels - 1)) (l.fn.depth + 1) (take l.index (tasks_of h l.info.scope)))
