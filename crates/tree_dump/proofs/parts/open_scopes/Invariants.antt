-- The numbers so far are counted.
use Rattle.std.proofs.Common.{◌+◌, ◌≡◌, ◌≤◌, count_by}
use Rattle.tree_dump.specs.{is_unclosed, range_with_len}
use Rattle.tree_dump.proofs.parts.open_scopes.Given as goal

abbrev pub invariant-loop-index : goal.invariant-loop-index
invariant-loop-index g l =
    let h = g.R.Readings.history l.readings in
    (l.count ≡ count_by (is_unclosed h) (range_with_len (h.base.scopes + 1) l.index)) × (l.count ≤ l.index)
