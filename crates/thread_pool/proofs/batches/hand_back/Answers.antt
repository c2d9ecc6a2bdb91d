use Rattle.std.proofs.Common.{◌++◌, ◌∷◌, ◌≡◌, map, rules}
use Rattle.thread_pool.specs.{declared.items.WorkItem.WorkItem}
use Rattle.thread_pool.proofs.Batched.{item_back}
use Rattle.thread_pool.proofs.batches.hand_back.Goals as goal

pub loop-item-preserved : goal.loop-item-preserved
loop-item-preserved g c =
    let item = c.in-Some.item in
    let works = c.loop-item.works.items in
    let back : c.push_front_reserved.new.self.items ≡ (item.ticket, item.work) ∷ works = search rules in (
      item_back (λ (i : WorkItem _ _ _ _). (i.ticket, i.work)) (map (λ (i : WorkItem _ _ _ _). (i.ticket, i.work)) c.args.items.items ++ c.args.works.now.items) works c.push_front_reserved.new.self.items c.loop-item.items.items c.pop_back.new.self.items item c.loop-item.invariant.0 c.in-Some.ensures.items back,
      search rules,
    )
