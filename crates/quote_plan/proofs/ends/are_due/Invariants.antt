-- The tasks before the index ended as their offers say.
use Rattle.std.specs.Prelude.{◌<◌, ◌≡◌}
use Rattle.quote_plan.specs.{ℕ, dues_of, slice_get, states_of}
use Rattle.quote_plan.proofs.ends.are_due.Given as goal

abbrev pub invariant-loop-index : goal.invariant-loop-index
invariant-loop-index l = (k : ℕ) → k < l.index → slice_get (states_of l.tasks) k ≡ slice_get (dues_of l.plan.offers) k
