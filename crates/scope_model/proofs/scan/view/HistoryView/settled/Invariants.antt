-- Whether one of the tasks so far waits or runs.
use Rattle.std.specs.Prelude.{◌+◌, ◌≡◌}
use Rattle.scope_model.specs.{is_unsettled, list_any, range_with_len}
use Rattle.scope_model.proofs.scan.view.HistoryView.settled.Given as goal

abbrev pub invariant-loop-before : goal.invariant-loop-before
invariant-loop-before l = l.unsettled ≡ list_any (is_unsettled l.self l.scope) (range_with_len (l.self.base.tasks + 1) l.before)
