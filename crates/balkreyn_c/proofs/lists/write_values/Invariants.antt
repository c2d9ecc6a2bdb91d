-- Those so far are written, and the others are as they were.
use Rattle.std.proofs.Common.{◌≡◌, drop, length, map, take}
use Rattle.balkreyn_c.specs.{of_value}
use Rattle.balkreyn_c.proofs.lists.write_values.Given as goal

abbrev pub invariant-loop-i : goal.invariant-loop-i
invariant-loop-i l = record {
  room : length l.tasks ≡ length l.initial.tasks;
  written : take l.i l.tasks ≡ map of_value (take l.i l.values);
  others : drop l.i l.tasks ≡ drop l.i l.initial.tasks;
}
