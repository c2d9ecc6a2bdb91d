-- The sum over the events so far, within 2 ^ 63 for each of them.
use Rattle.std.specs.Prelude.{◌*◌, ◌^◌, ◌≡◌, ◌≤ℤ◌}
use Rattle.scope_model.specs.{completion_of, filter_map, neg_ℤ, pos, take, total_of}
use Rattle.scope_model.proofs.scan.view.HistoryView.total.Given as goal

abbrev pub invariant-loop-place : goal.invariant-loop-place
invariant-loop-place l = record {
  sum : l.total ≡ total_of (filter_map (completion_of l.self l.scope) (take l.place l.self.events));
  low : neg_ℤ (pos (2 ^ 63 * l.place)) ≤ℤ l.total;
  high : l.total ≤ℤ pos (2 ^ 63 * l.place);
}
