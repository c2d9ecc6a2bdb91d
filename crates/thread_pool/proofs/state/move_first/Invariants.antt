-- The items so far were moved.
use Rattle.std.proofs.Common.{◌++◌, ◌+◌, ◌≡◌, ◌≤◌, drop, take}
use Rattle.thread_pool.specs.{deque_capacity, deque_len}
use Rattle.thread_pool.proofs.state.move_first.Given as goal

abbrev pub invariant-loop : goal.invariant-loop
invariant-loop g l =
    (l.queue.items ≡ l.initial.queue.items ++ take l.counter l.initial.items.items)
    × (l.items.items ≡ drop l.counter l.initial.items.items)
    × (deque_len l.queue + l.count ≤ deque_capacity l.queue + l.counter)
    × (deque_len l.items + l.counter ≡ deque_len l.initial.items)
