-- The items are those of the first works, and so are the handles.
use Rattle.std.proofs.Common.{◌++◌, ◌+◌, ◌≡◌, ◌≤◌, map, vec_capacity, vec_len}
use Rattle.thread_pool.specs.{All, TicketValue, declared.executors.PoolHandle.PoolHandle, declared.items.WorkItem.WorkItem, deque_capacity, deque_len}
use Rattle.thread_pool.proofs.batches.make_items.Given as goal

abbrev pub invariant-loop : goal.invariant-loop
invariant-loop g l =
    (l.initial.works.items ≡ map (λ (i : WorkItem _ _ _ _). (i.ticket, i.work)) l.items.items ++ l.works.items)
    × (map (λ (h : PoolHandle _ _). h.first.value) l.handles.items ≡ map (λ (i : WorkItem _ _ _ _). i.ticket) l.items.items)
    × All (λ w. g.W.Ready.ready_for w.1 w.0) l.works.items
    × (deque_len l.works + deque_len l.items ≡ deque_len l.initial.works)
    × (deque_capacity l.works ≡ deque_capacity l.initial.works)
    × (deque_len l.items ≡ l.counter)
    × (l.count ≤ deque_capacity l.items)
    × (vec_len l.handles ≡ l.counter)
    × (deque_len l.initial.works ≤ vec_capacity l.handles)
