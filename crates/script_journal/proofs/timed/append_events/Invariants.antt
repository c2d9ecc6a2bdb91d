-- Those so far.
use Rattle.std.proofs.Common.{◌++◌, ◌≡◌, string_bytes}
use Rattle.script_journal.specs.{flat_map, range_with_len, timed_line}
use Rattle.script_journal.proofs.timed.append_events.Given as goal

abbrev pub invariant-loop-place : goal.invariant-loop-place
invariant-loop-place l =
    string_bytes l.text ≡ string_bytes l.fn.text ++ flat_map (timed_line l.base l.events l.times) (range_with_len 0 l.place)
