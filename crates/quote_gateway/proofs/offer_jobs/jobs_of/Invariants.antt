-- The labels of the jobs so far are those of the offers before the index.
use Rattle.std.specs.Prelude.{◌≡◌}
use Rattle.quote_gateway.specs.{label_of, labels_in, map}
use Rattle.quote_gateway.proofs.Words.{take}
use Rattle.quote_gateway.proofs.offer_jobs.jobs_of.Given as goal

abbrev pub invariant-loop-index : goal.invariant-loop-index
invariant-loop-index l = labels_in l.jobs.items ≡ map label_of (take l.index l.plan.offers)
