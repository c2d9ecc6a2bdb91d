use Rattle.std.proofs.Common.{◌+◌, ◌-◌, ◌≡◌, ◌≤◌, length, take, vec_capacity, vec_len}
use Rattle.scope_index.specs.{listing_by, state_in}
use Rattle.scope_index.proofs.answers.IndexedTasksTaskReadings.listing.Given as goal

-- the tasks so far, and room for the others
abbrev pub invariant-loop-task : goal.invariant-loop-task
invariant-loop-task l = (l.states.items ≡ listing_by (state_in l.self.rows.now) (take l.task-index l.self.tasks.now)) × (vec_len l.states + (length l.self.tasks.now - l.task-index) ≤ vec_capacity l.states)
