-- The entry counts if it forks a task.
use Rattle.scope_log.proofs.CountSteps.{counts_step, total_step}
use Rattle.scope_log.proofs.readings.counts.Goals as goal

pub loop-entry-preserved : goal.loop-entry-preserved
loop-entry-preserved c = record {
  counted = counts_step c.args.entries.now c.loop-entry.entry-index c.entry-item.result _ _ c.loop-entry-test.true c.entry-item.is c.loop-entry.invariant.counted c.count_entry.ensures;
  within = total_step c.args.entries.now c.loop-entry.entry-index c.entry-item.result _ _ c.loop-entry.invariant.within c.count_entry.ensures;
}
