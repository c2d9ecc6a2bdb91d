-- The value of the next task follows those so far.
use Rattle.scope_index.specs.{state_in, value_in}
use Rattle.scope_index.proofs.Words.{◌∙◌, ap, arith}
use Rattle.scope_index.proofs.Lists.{values_next}
use Rattle.scope_index.proofs.answers.IndexedTasksTaskReadings.values.Goals as goal

pub loop-task-preserved : goal.loop-task-preserved
loop-task-preserved c = (
  values_next (state_in c.args.self.now.rows.now) c.args.self.now.tasks.now c.loop-task.task-index _ _ _ c.loop-task-test.true c.loop-task.invariant.0 (c.value_in.ensures ∙ ap (value_in _) c.state_of.ensures) c.push_value.ensures.items,
  omega (arith, c.push_value.ensures.len, c.push_value.ensures.capacity, c.loop-task.invariant.1, c.loop-task-test.true),
)
