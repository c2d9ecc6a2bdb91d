-- Each turn adds one of the threads, and there is room for those that are left.
use Rattle.std.proofs.Common.{◌++◌, ◌+◌, ◌≡◌, ◌≤◌, map, vec_capacity, vec_len}
use Rattle.thread_pool.specs.{All, TicketValue, deque_len}
use Rattle.thread_pool.proofs.teams.Team.add_all.Given as goal

abbrev pub invariant-loop-handle : goal.invariant-loop-handle
invariant-loop-handle g l =
    (l.self-inside.running.items ++ map g.S.Spawner.first_of l.handles.items ≡ l.initial.self-inside.running.items ++ map g.S.Spawner.first_of l.initial.handles.items)
    × (l.self-inside.returned ≡ l.initial.self-inside.returned)
    × All (λ (t : TicketValue). t.scope ≡ l.scope) (map g.S.Spawner.first_of l.handles.items)
    × (vec_len l.self-inside.running + deque_len l.handles ≤ vec_capacity l.self-inside.running)
    × (vec_len l.self-inside.running + deque_len l.handles + vec_len l.self-inside.returned ≤ vec_capacity l.self-inside.returned)

abbrev pub decreases-loop-handle : goal.decreases-loop-handle
decreases-loop-handle g l = deque_len l.handles
