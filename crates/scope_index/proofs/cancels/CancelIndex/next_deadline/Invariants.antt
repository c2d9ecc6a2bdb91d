-- Each turn goes past the next scope that is cancelled.
use Rattle.std.proofs.Common.{◌≡◌}
use Rattle.scope_index.proofs.Coming.{IsAhead}
use Rattle.scope_index.proofs.cancels.CancelIndex.next_deadline.Given as goal

abbrev pub invariant-loop-deadline : goal.invariant-loop-deadline
invariant-loop-deadline l =
    (goal.iterator-loop-deadline).can_next l.deadline-iterator
    × ((goal.iterator-loop-deadline).is_finite l.deadline-iterator
    × IsAhead l.initial.self-inside.tree l.initial.self-inside.deadlines l.deadline-iterator)
