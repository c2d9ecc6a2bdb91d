use Rattle.std.proofs.Common.{◌+◌, ◌-◌, ◌≡◌, ◌≤◌, length, take, vec_capacity, vec_len}
use Rattle.scope_index.specs.{state_in, values_by}
use Rattle.scope_index.proofs.answers.IndexedTasksTaskReadings.values.Given as goal

-- the values of the tasks so far, and room for the others'
abbrev pub invariant-loop-task : goal.invariant-loop-task
invariant-loop-task l = (l.values.items ≡ values_by (state_in l.self.rows.now) (take l.task-index l.self.tasks.now)) × (vec_len l.values + (length l.self.tasks.now - l.task-index) ≤ vec_capacity l.values)
