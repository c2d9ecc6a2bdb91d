-- The threads from there on are of scopes that were opened earlier.
use Rattle.std.proofs.Common.{ℕ, ◌<◌, ◌≤◌, length, slice_index_or}
use Rattle.thread_pool.specs.{TicketValue}
use Rattle.thread_pool.proofs.teams.last_from.Given as goal

abbrev pub invariant-loop-place : goal.invariant-loop-place
invariant-loop-place g l = (k : ℕ) (d : TicketValue) → l.place ≤ k → k < length l.running → (slice_index_or l.running k d).scope < l.scope
