-- There is room for what is left; each turn puts one ticket back.
use Rattle.std.proofs.Common.{◌++◌, ◌+◌, ◌≡◌, ◌≤◌, vec_capacity, vec_len}
use Rattle.thread_pool.specs.{All, IsPermutation, TicketValue}
use Rattle.thread_pool.proofs.teams.Team.put_back.Given as goal

abbrev pub invariant-loop-ticket : goal.invariant-loop-ticket
invariant-loop-ticket g l =
    All (λ (t : TicketValue). t.table ≡ g.N.RealmName.table) l.tickets.items
    × (vec_len l.tickets + (vec_len l.self-inside.running + vec_len l.self-inside.returned) ≤ vec_capacity l.self-inside.returned)
    × (l.self-inside.running ≡ l.initial.self-inside.running)
    × IsPermutation (l.initial.self-inside.returned.items ++ l.initial.tickets.items) (l.self-inside.returned.items ++ l.tickets.items)

abbrev pub decreases-loop-ticket : goal.decreases-loop-ticket
decreases-loop-ticket g l = vec_len l.tickets
