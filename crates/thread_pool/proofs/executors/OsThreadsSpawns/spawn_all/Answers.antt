-- Items were made of the first works, and of these the first were taken.
use Rattle.std.proofs.Common.{◌-◌, ◌∙◌, ◌≡◌, ap, arith, length, take, vec_len}
use Rattle.thread_pool.specs.{declared.executors.PoolHandle.PoolHandle, declared.items.WorkItem.WorkItem, deque_len}
use Rattle.thread_pool.proofs.Batched.{spawns_first}
use Rattle.thread_pool.proofs.executors.OsThreadsSpawns.spawn_all.Goals as goal

pub returns : goal.returns
returns g c =
    let handles = c.make_items.new.handles in
    let back = c.give_all.new.items in
    let count : vec_len handles - deque_len back ≡ length handles.items - length back.items = let all = handles.ok.0 in let some = back.ok.0 in omega arith in
    spawns_first (λ (h : PoolHandle _ _). h.first.value) (λ (i : WorkItem _ _ _ _). (i.ticket, i.work)) c.args.works.now.items c.make_items.new.works.items c.hand_back.new.works.items c.make_items.new.items.items c.give_all.ensures.0 back.items handles.items c.hand_back.new.handles.items c.make_items.ensures.are c.give_all.ensures.1 c.hand_back.ensures.works c.make_items.ensures.given (c.hand_back.ensures.handles ∙ ap (λ n. take n handles.items) count)
