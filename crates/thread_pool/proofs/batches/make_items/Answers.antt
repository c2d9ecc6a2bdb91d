use Rattle.thread_pool.specs.{declared.executors.PoolHandle.PoolHandle, declared.items.WorkItem.WorkItem}
use Rattle.thread_pool.proofs.Words.{All-rest, arith, rules}
use Rattle.thread_pool.proofs.Batched.{handle_made, item_made}
use Rattle.thread_pool.proofs.batches.make_items.Goals as goal

pub loop-preserved : goal.loop-preserved
loop-preserved g c =
    let so_far = c.loop.invariant in
    let item = c.in-Some.item in
    let works = c.make_item.new.works.items in (
      item_made (λ (i : WorkItem _ _ _ _). (i.ticket, i.work)) c.args.works.now.items c.loop.works.items works c.loop.items.items c.push_back_reserved.new.self.items item so_far.0 c.in-Some.ensures.made c.push_back_reserved.ensures.items,
      handle_made (λ (h : PoolHandle _ _). h.first.value) (λ (i : WorkItem _ _ _ _). i.ticket) c.loop.handles.items c.push_reserved.new.self.items c.loop.items.items c.push_back_reserved.new.self.items c.in-Some.handle item so_far.1 c.push_reserved.ensures.items c.push_back_reserved.ensures.items c.in-Some.ensures.handle,
      All-rest (λ w. g.W.Ready.ready_for w.1 w.0) (item.ticket, item.work) works c.loop.works.items c.in-Some.ensures.made so_far.2,
      omega (arith, so_far.3, c.in-Some.ensures.len, c.push_back_reserved.ensures.len),
      search rules,
      omega (arith, so_far.5, c.push_back_reserved.ensures.len),
      search rules,
      omega (arith, so_far.7, c.push_reserved.ensures.len),
      search rules,
    )
