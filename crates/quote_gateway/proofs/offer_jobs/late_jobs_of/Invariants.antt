-- The labels of the jobs so far are those of the offers before the place.
use Rattle.std.specs.Prelude.{◌≡◌}
use Rattle.quote_gateway.specs.{label_of, labels_in, map}
use Rattle.quote_gateway.proofs.Words.{take}
use Rattle.quote_gateway.proofs.offer_jobs.late_jobs_of.Given as goal

abbrev pub invariant-loop-place : goal.invariant-loop-place
invariant-loop-place g l = labels_in l.jobs.items ≡ map label_of (take l.place l.plan.offers)
