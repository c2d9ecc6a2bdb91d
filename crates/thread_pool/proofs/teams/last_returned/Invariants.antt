-- The tickets from there on are of scopes that were opened earlier.
use Rattle.std.proofs.Common.{ℕ, ◌<◌, ◌≤◌, length, slice_index_or}
use Rattle.thread_pool.proofs.teams.last_returned.Given as goal

abbrev pub invariant-loop-place : goal.invariant-loop-place
invariant-loop-place g l = (k : ℕ) (d : _) → l.place ≤ k → k < length l.returned → (slice_index_or l.returned k d).scope < l.scope
