-- What is pending and what is left give the whole.
use Rattle.std.specs.Prelude.{◌+◌, ◌<◌, ◌≡◌}
use Rattle.run_picture.specs.{ℕ, Some, get_or, length, option_map_or, suc, times, times_below}
use Rattle.run_picture.proofs.Placing.{times_left}
use Rattle.run_picture.proofs.placed.push_below.Given as goal

abbrev pub invariant-loop-next : goal.invariant-loop-next
invariant-loop-next l = record {
  there : (c : ℕ) → l.next ≡ Some c → c < length l.keys;
  key : (c : ℕ) → l.next ≡ Some c → get_or l.keys c 0 ≡ l.key;
  whole : (n : ℕ) → times n l.pending.items + times_left l.keys l.key l.next n ≡ times n l.fn.pending.items + times_below l.keys l.key (length l.keys) n;
}

abbrev pub decreases-loop-next : goal.decreases-loop-next
decreases-loop-next l = option_map_or suc l.next 0
