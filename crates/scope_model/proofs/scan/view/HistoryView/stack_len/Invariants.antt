-- How many own pairs the actor has after the events so far.
use Rattle.std.specs.Prelude.{◌+◌, ◌≡◌, ◌≤◌}
use Rattle.scope_model.specs.{before, first_stack, length, stack}
use Rattle.scope_model.proofs.scan.view.HistoryView.stack_len.Given as goal

abbrev pub invariant-loop-place : goal.invariant-loop-place
invariant-loop-place l = record {
  height : l.height ≡ length (stack (before l.self l.place) l.actor);
  bound : l.height ≤ length (first_stack l.self l.actor) + l.place;
}
