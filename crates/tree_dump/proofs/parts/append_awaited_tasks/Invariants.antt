-- The tasks so far.
use Rattle.std.proofs.Common.{◌++◌, ◌≡◌, string_bytes, take}
use Rattle.tree_dump.specs.{awaited_task, clock_of, flat_map, tasks_of}
use Rattle.tree_dump.proofs.parts.append_awaited_tasks.Given as goal

abbrev pub invariant-loop-index : goal.invariant-loop-index
invariant-loop-index g l =
    let h = g.R.Readings.history l.readings in
    string_bytes l.text ≡ string_bytes l.fn.text ++ flat_map (awaited_task (clock_of l.ages) h) (take l.index (tasks_of h l.scope))
