use Rattle.std.proofs.Common.{[], ◌++◌, ◌∙◌, ◌∷◌, ◌≡◌, List, ap, append_assoc, arith, map, sym}
use Rattle.thread_pool.specs.{TicketValue}
use Rattle.thread_pool.proofs.Words.{All-head, All-rest, All-same}
use Rattle.thread_pool.proofs.teams.Team.add_all.Goals as goal

pub invariant_of-push_reserved : goal.invariant_of-push_reserved
invariant_of-push_reserved g c =
    let of = g.S.Spawner.first_of in
    let first = of c.in-Some.handle in
    let rest = map of c.pop_front.new.self.items in
    let first_is : map of c.loop-handle.handles.items ≡ first ∷ rest = ap (λ hs. map of hs) c.in-Some.ensures.items in
    All-head (λ (t : TicketValue). t.scope ≡ c.args.scope) first rest (All-same (λ (t : TicketValue). t.scope ≡ c.args.scope) (first ∷ rest) (map of c.loop-handle.handles.items) (sym first_is) c.loop-handle.invariant.2)

pub loop-handle-preserved : goal.loop-handle-preserved
loop-handle-preserved g c =
    let so_far = c.loop-handle.invariant in
    let of = g.S.Spawner.first_of in
    let first = of c.in-Some.handle in
    let rest = map of c.pop_front.new.self.items in
    let first_is : map of c.loop-handle.handles.items ≡ first ∷ rest = ap (λ hs. map of hs) c.in-Some.ensures.items in
    let running = c.loop-handle.self-inside.running.items in (
      ap (λ xs. xs ++ rest) c.push_reserved.ensures.items ∙ (append_assoc running (first ∷ []) rest ∙ (ap (λ (xs : List TicketValue). running ++ xs) (sym first_is) ∙ so_far.0)),
      so_far.1,
      All-rest (λ (t : TicketValue). t.scope ≡ c.args.scope) first rest (map of c.loop-handle.handles.items) first_is so_far.2,
      omega (arith, so_far.3, c.in-Some.ensures.len, c.push_reserved.ensures.len, c.push_reserved.ensures.capacity),
      omega (arith, so_far.4, c.in-Some.ensures.len, c.push_reserved.ensures.len),
    )
