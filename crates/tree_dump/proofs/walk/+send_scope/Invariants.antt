use Rattle.std.proofs.Common.{◌*◌, ◌+◌, drop, map, option_map}
use Rattle.tree_dump.specs.{Log, SendsItems, Tree.nested, clock_of, items_of, task_shown, tasks_of}
use Rattle.tree_dump.proofs.walk.+send_scope.Given as goal

abbrev pub decreases-send_scope : goal.decreases-send_scope
decreases-send_scope g l = 3 * l.levels

abbrev pub decreases-send_task : goal.decreases-send_task
decreases-send_task g l = 3 * l.levels + 1

abbrev pub decreases-send_tasks : goal.decreases-send_tasks
decreases-send_tasks g l = 3 * l.levels + 2

-- whatever ends the list well from here ends it well from the start
abbrev pub invariant-send_tasks-loop-index : goal.invariant-send_tasks-loop-index
invariant-send_tasks-loop-index g l =
    let h = g.R.Readings.history l.readings in
    let by = option_map (λ a. clock_of a.now) l.ages in
    let shown = task_shown by h (nested by h l.levels) in
    (end : Log) → SendsItems (items_of (map shown (drop l.index (tasks_of h l.scope)))) (g.S.Serializer.written l.out) end → SendsItems (items_of (map shown (tasks_of h l.scope))) (g.S.Serializer.written l.initial.out) end
