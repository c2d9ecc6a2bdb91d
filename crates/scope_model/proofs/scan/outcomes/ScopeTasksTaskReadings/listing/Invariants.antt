-- What the tasks so far gave.
use Rattle.scope_model.specs.{◌+◌, ◌≡◌, filter, is_task_of, listing_by, range_with_len, state}
use Rattle.scope_model.proofs.scan.outcomes.ScopeTasksTaskReadings.listing.Given as goal

abbrev pub invariant-loop-before : goal.invariant-loop-before
invariant-loop-before l = l.states.items ≡ listing_by (state l.self.view.now) (filter (is_task_of l.self.view.now l.self.scope) (range_with_len (l.self.view.now.base.tasks + 1) l.before))
