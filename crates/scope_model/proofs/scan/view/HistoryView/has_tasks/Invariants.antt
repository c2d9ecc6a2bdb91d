-- Whether one of the tasks so far was forked in the scope.
use Rattle.std.specs.Prelude.{◌+◌, ◌≡◌}
use Rattle.scope_model.specs.{is_task_of, list_any, range_with_len}
use Rattle.scope_model.proofs.scan.view.HistoryView.has_tasks.Given as goal

abbrev pub invariant-loop-before : goal.invariant-loop-before
invariant-loop-before l = l.found ≡ list_any (is_task_of l.self l.scope) (range_with_len (l.self.base.tasks + 1) l.before)
