-- The scopes so far.
use Rattle.std.proofs.Common.{◌++◌, ◌+◌, ◌≡◌, string_bytes}
use Rattle.tree_dump.specs.{awaited_scope, clock_of, filter, flat_map, is_awaiting, range_with_len}
use Rattle.tree_dump.proofs.parts.append_awaited.Given as goal

abbrev pub invariant-loop-index : goal.invariant-loop-index
invariant-loop-index g l =
    let h = g.R.Readings.history l.readings in
    string_bytes l.text ≡ string_bytes l.fn.text ++ flat_map (awaited_scope (clock_of l.ages) h) (filter (is_awaiting h) (range_with_len (h.base.scopes + 1) l.index))
