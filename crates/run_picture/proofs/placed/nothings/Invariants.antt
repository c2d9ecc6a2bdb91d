-- Nothing so far.
use Rattle.std.specs.Prelude.{◌<◌, ◌≡◌}
use Rattle.run_picture.specs.{ℕ, None, get_or, length}
use Rattle.run_picture.proofs.placed.nothings.Given as goal

abbrev pub invariant-loop : goal.invariant-loop
invariant-loop l = record {
  long : length l.nothings.items ≡ l.counter;
  each : (k : ℕ) → k < l.counter → get_or l.nothings.items k None ≡ None;
}
