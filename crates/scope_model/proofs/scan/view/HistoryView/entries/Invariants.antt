-- The entries of the places so far.
use Rattle.std.specs.Prelude.{◌≡◌}
use Rattle.scope_model.specs.{entries_at, flat_map, range_with_len}
use Rattle.scope_model.proofs.scan.view.HistoryView.entries.Given as goal

abbrev pub invariant-loop-place : goal.invariant-loop-place
invariant-loop-place l = l.entries.items ≡ flat_map (entries_at l.self l.scope) (range_with_len 0 l.place)
