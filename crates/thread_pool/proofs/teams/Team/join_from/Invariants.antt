-- Each turn makes a ticket of a thread, its own; those from `below` on are of scopes that were opened earlier.
use Rattle.std.proofs.Common.{ℕ, ◌++◌, ◌+◌, ◌<◌, ◌≡◌, ◌≤◌, List, length, slice_index_or, vec_capacity, vec_len}
use Rattle.thread_pool.specs.{All, AreReturns, IsPermutation, TicketValue}
use Rattle.thread_pool.proofs.teams.Team.join_from.Given as goal

abbrev pub invariant-loop-place : goal.invariant-loop-place
invariant-loop-place g l =
    (vec_len l.self-inside.running + vec_len l.self-inside.returned ≤ vec_capacity l.self-inside.returned)
    × (joined : List TicketValue)
    × (given : List TicketValue)
    × (l.self-inside.returned.items ≡ l.initial.self-inside.returned.items ++ given)
    × IsPermutation l.initial.self-inside.running.items (joined ++ l.self-inside.running.items)
    × All (λ (t : TicketValue). l.scope ≤ t.scope) joined
    × AreReturns g.N.RealmName.table joined given
    × (l.below ≤ vec_len l.self-inside.running)
    × ((k : ℕ) (d : TicketValue) → l.below ≤ k → k < vec_len l.self-inside.running → (slice_index_or l.self-inside.running.items k d).scope < l.scope)

abbrev pub decreases-loop-place : goal.decreases-loop-place
decreases-loop-place g l = vec_len l.self-inside.running
