use Rattle.std.proofs.Common.{◌++◌, ◌<◌, ◌∙◌, ◌∷◌, ◌≡◌, ◌≤◌, arith, length, slice_index_or, subst, sym}
use Rattle.thread_pool.specs.{All, ArePartedAt, IsPermutation, TeamValue, TicketValue}
use Rattle.thread_pool.proofs.Words.{All-push, IsPermutation-swap_remove, IsPermutation-trans}
use Rattle.thread_pool.proofs.Moved.{earlier_stay, one_moved}
use Rattle.thread_pool.proofs.teams.Team.take_from.Goals as goal

pub loop-place-preserved : goal.loop-place-preserved
loop-place-preserved g c =
    let so_far = c.loop-place.invariant in
    let taken = c.loop-place.tickets.items in
    let returned = c.loop-place.self-inside.returned.items in
    let ticket = c.into_held.result in
    let same : ticket ≡ c.swap_remove.result = c.into_held.ensures.same in
    let P : TicketValue → Type 0 = λ t. t.table ≡ g.N.RealmName.table in
    let From : TicketValue → Type 0 = λ t. c.args.scope ≤ t.scope in
    let within_slice : c.in-Some.place < length c.as_slice.result.now = omega (arith, so_far.6, c.in-Some.ensures.found.0, c.as_slice.ensures.len) in
    let within : c.in-Some.place < length returned = subst (λ xs. c.in-Some.place < length xs) c.as_slice.ensures.value within_slice in
    let from : From ticket = subst From (sym (same ∙ c.swap_remove.ensures.value)) (subst (λ xs. From (slice_index_or xs c.in-Some.place c.swap_remove.result)) c.as_slice.ensures.value (c.in-Some.ensures.found.1 c.swap_remove.result)) in
    let apart : IsPermutation returned (ticket ∷ c.swap_remove.new.self.items) = subst (λ t. IsPermutation returned (t ∷ c.swap_remove.new.self.items)) (sym same) (subst (λ xs. IsPermutation returned (c.swap_remove.result ∷ xs)) (sym c.swap_remove.ensures.items) (IsPermutation-swap_remove returned c.in-Some.place c.swap_remove.result within c.swap_remove.ensures.value)) in (
      subst (All P) (sym c.push_reserved.ensures.items) (All-push P taken ticket so_far.0 c.into_held.ensures.named),
      omega (arith, so_far.1, c.push_reserved.ensures.len, c.push_reserved.ensures.capacity, c.swap_remove.ensures.len),
      omega (arith, so_far.2, c.push_reserved.ensures.len, c.swap_remove.ensures.len, c.swap_remove.ensures.capacity),
      so_far.3,
      IsPermutation-trans _ _ _ so_far.4 (subst (λ xs. IsPermutation (taken ++ returned) (xs ++ c.swap_remove.new.self.items)) (sym c.push_reserved.ensures.items) (one_moved taken returned ticket c.swap_remove.new.self.items apart)),
      subst (All From) (sym c.push_reserved.ensures.items) (All-push From taken ticket so_far.5 from),
      omega (arith, so_far.6, c.in-Some.ensures.found.0, c.swap_remove.ensures.len),
      earlier_stay (λ t. t.scope) c.args.scope c.in-Some.place _ _ returned c.swap_remove.new.self.items c.swap_remove.ensures.len c.swap_remove.ensures.by_index.0 c.swap_remove.ensures.by_index.1 (λ k d after within. subst (λ xs. (slice_index_or xs k d).scope < c.args.scope) c.as_slice.ensures.value (c.in-Some.ensures.last k d after (omega (arith, within, c.as_slice.ensures.len)))),
    )

pub returns-clause-parted : goal.returns-clause-parted
returns-clause-parted g c = subst (λ (t : TeamValue). ArePartedAt c.args.scope t.returned c.loop-place.tickets.items c.loop-place.self-inside.returned.items) c.self.view_is record {
  same = c.loop-place.invariant.4;
  from = c.loop-place.invariant.5;
  below = subst (All (λ (t : TicketValue). t.scope < c.args.scope)) c.as_slice.ensures.value c.in_default.ensures.found;
}
