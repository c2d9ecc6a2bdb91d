-- The tasks before the index ended as their offers say.
use Rattle.std.specs.Prelude.{◌<◌, ◌≡◌}
use Rattle.quote_plan.specs.{ℕ, dues_of, slice_get, states_of_values}
use Rattle.quote_plan.proofs.ends.are_due_values.Given as goal

abbrev pub invariant-loop-index : goal.invariant-loop-index
invariant-loop-index l = (k : ℕ) → k < l.index → slice_get (states_of_values l.values) k ≡ slice_get (dues_of l.plan.offers) k
