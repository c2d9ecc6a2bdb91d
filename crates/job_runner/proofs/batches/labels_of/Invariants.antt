-- The labels of the jobs before the index are listed, and there is room for the others.
use Rattle.std.proofs.Common.{◌≡◌, ◌≤◌, length, take, vec_capacity, vec_len}
use Rattle.job_runner.specs.{labels_of}
use Rattle.job_runner.proofs.batches.labels_of.Given as goal

abbrev pub invariant-loop-job : goal.invariant-loop-job
invariant-loop-job g l =
    (l.labels.items ≡ labels_of (take l.job-index l.jobs))
    × (vec_len l.labels ≡ l.job-index)
    × (length l.jobs ≤ vec_capacity l.labels)
