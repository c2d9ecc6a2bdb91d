-- So many were found in what was looked at, and no more than are wanted.
use Rattle.std.proofs.Common.{◌≡◌, ◌≤◌, length, drop, count_by}
use Rattle.scope_rules.specs.Joining.{has_succeeded}
use Rattle.part_tests.proofs.book.asked_once.has_successes.Given as goal

abbrev pub invariant-loop-left : goal.invariant-loop-left
invariant-loop-left l = record {
  in_range : l.left ≤ length l.list;
  counted : l.found ≡ count_by has_succeeded (drop l.left l.list);
  few : l.found ≤ l.limit;
}

abbrev pub decreases-loop-left : goal.decreases-loop-left
decreases-loop-left l = l.left
