-- What was taken is of the realm, and each ticket that was leaves its room; each turn takes one. Those from
-- `below` on are of scopes that were opened earlier.
use Rattle.std.proofs.Common.{ℕ, ◌++◌, ◌+◌, ◌<◌, ◌≡◌, ◌≤◌, slice_index_or, vec_capacity, vec_len}
use Rattle.thread_pool.specs.{All, IsPermutation, TicketValue}
use Rattle.thread_pool.proofs.teams.Team.take_from.Given as goal

abbrev pub invariant-loop-place : goal.invariant-loop-place
invariant-loop-place g l =
    All (λ (t : TicketValue). t.table ≡ g.N.RealmName.table) l.tickets.items
    × (vec_len l.tickets + vec_len l.self-inside.returned ≤ vec_capacity l.tickets)
    × (vec_len l.tickets + (vec_len l.self-inside.running + vec_len l.self-inside.returned) ≤ vec_capacity l.self-inside.returned)
    × (l.self-inside.running ≡ l.initial.self-inside.running)
    × IsPermutation l.initial.self-inside.returned.items (l.tickets.items ++ l.self-inside.returned.items)
    × All (λ (t : TicketValue). l.scope ≤ t.scope) l.tickets.items
    × (l.below ≤ vec_len l.self-inside.returned)
    × ((k : ℕ) (d : TicketValue) → l.below ≤ k → k < vec_len l.self-inside.returned → (slice_index_or l.self-inside.returned.items k d).scope < l.scope)

abbrev pub decreases-loop-place : goal.decreases-loop-place
decreases-loop-place g l = vec_len l.self-inside.returned
