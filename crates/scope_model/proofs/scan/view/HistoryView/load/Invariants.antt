-- The load of the base and the events so far.
use Rattle.std.specs.Prelude.{◌*◌, ◌+◌, ◌≡◌, ◌≤◌}
use Rattle.scope_model.specs.{length, sum_by, take, weight}
use Rattle.scope_model.proofs.scan.view.HistoryView.load.Given as goal

abbrev pub invariant-loop-place : goal.invariant-loop-place
invariant-loop-place l = record {
  load : l.load ≡ length l.self.base.binds + sum_by weight (take l.place l.self.events);
  bound : l.load ≤ length l.self.base.binds + 4 * l.place;
}
