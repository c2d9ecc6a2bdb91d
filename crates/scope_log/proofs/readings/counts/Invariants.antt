-- The tasks of the entries so far were counted.
use Rattle.std.proofs.Common.{◌≡◌, ◌≤◌, take}
use Rattle.scope_log.specs.{counts_of, filter_map, task_forked, total}
use Rattle.scope_log.proofs.readings.counts.Given as goal

abbrev pub invariant-loop-entry : goal.invariant-loop-entry
invariant-loop-entry l = record {
  counted : l.counts ≡ counts_of l.entries (filter_map task_forked (take l.entry-index l.entries));
  within : total l.counts ≤ l.entry-index;
}
