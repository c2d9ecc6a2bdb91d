-- How many of the tasks so far are at the stage.
use Rattle.std.specs.Prelude.{◌+◌, ◌≡◌, ◌≤◌}
use Rattle.scope_model.specs.{count_by, is_at, range_with_len}
use Rattle.scope_model.proofs.scan.view.HistoryView.count_at.Given as goal

abbrev pub invariant-loop-before : goal.invariant-loop-before
invariant-loop-before l = record {
  count : l.count ≡ count_by (is_at l.self l.scope l.stage) (range_with_len (l.self.base.tasks + 1) l.before);
  bound : l.count ≤ l.before;
}
