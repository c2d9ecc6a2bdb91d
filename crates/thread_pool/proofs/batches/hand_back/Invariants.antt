-- Each turn puts one work back.
use Rattle.std.proofs.Common.{◌++◌, ◌+◌, ◌≡◌, ◌≤◌, map}
use Rattle.thread_pool.specs.{declared.items.WorkItem.WorkItem, deque_capacity, deque_len}
use Rattle.thread_pool.proofs.batches.hand_back.Given as goal

abbrev pub invariant-loop-item : goal.invariant-loop-item
invariant-loop-item g l =
    (map (λ (i : WorkItem _ _ _ _). (i.ticket, i.work)) l.items.items ++ l.works.items ≡ map (λ (i : WorkItem _ _ _ _). (i.ticket, i.work)) l.initial.items.items ++ l.initial.works.items)
    × (deque_len l.works + deque_len l.items ≤ deque_capacity l.works)

abbrev pub decreases-loop-item : goal.decreases-loop-item
decreases-loop-item g l = deque_len l.items
