-- The labels of the jobs before the index are those of the plan's offers.
use Rattle.std.specs.Prelude.{◌<◌, ◌≡◌}
use Rattle.quote_gateway.specs.{ℕ, labels_in, labels_of}
use Rattle.quote_gateway.proofs.Words.{slice_get}
use Rattle.quote_gateway.proofs.labels.are_offers.Given as goal

abbrev pub invariant-loop-index : goal.invariant-loop-index
invariant-loop-index g l = (k : ℕ) → k < l.index → slice_get (labels_in l.jobs) k ≡ slice_get (labels_of l.plan) k
