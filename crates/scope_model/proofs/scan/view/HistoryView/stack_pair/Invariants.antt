-- The pair at the place after the events so far.
use Rattle.std.specs.Prelude.{◌+◌, ◌≡◌, ◌≤◌}
use Rattle.scope_model.specs.{before, first_stack, length, slice_get, stack}
use Rattle.scope_model.proofs.scan.view.HistoryView.stack_pair.Given as goal

abbrev pub invariant-loop-place : goal.invariant-loop-place
invariant-loop-place l = record {
  pair : l.pair ≡ slice_get (stack (before l.self l.place) l.actor) l.index;
  height : l.height ≡ length (stack (before l.self l.place) l.actor);
  bound : l.height ≤ length (first_stack l.self l.actor) + l.place;
}
