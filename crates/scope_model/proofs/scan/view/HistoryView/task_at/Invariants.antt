-- How many of the tasks so far are the scope's: not more than the place.
use Rattle.std.specs.Prelude.{◌+◌, ◌≡◌, ◌≤◌}
use Rattle.scope_model.specs.{filter, is_task_of, length, range_with_len}
use Rattle.scope_model.proofs.scan.view.HistoryView.task_at.Given as goal

abbrev pub invariant-loop-before : goal.invariant-loop-before
invariant-loop-before l = (l.passed ≡ length (filter (is_task_of l.self l.scope) (range_with_len (l.self.base.tasks + 1) l.before))) × (l.passed ≤ l.place)
