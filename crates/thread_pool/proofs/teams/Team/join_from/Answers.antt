use Rattle.std.proofs.Common.{[], ◌++◌, ◌<◌, ◌∙◌, ◌∷◌, ◌≤◌, ap, arith, length, rules, slice_index_or, subst, sym}
use Rattle.thread_pool.specs.{All, IsPermutation, Returns.Returns, TeamValue, TicketValue}
use Rattle.thread_pool.proofs.Words.{All-push, IsPermutation-refl, IsPermutation-swap_remove, IsPermutation-trans, append-nil, append_assoc}
use Rattle.thread_pool.proofs.{Moved.earlier_stay, Moved.one_moved, Returned.one_returned}
use Rattle.thread_pool.proofs.teams.Team.join_from.Goals as goal

pub loop-place-init : goal.loop-place-init
loop-place-init g c = (c.self.invariant, [], [], sym (append-nil c.self.inside.returned.items), IsPermutation-refl c.self.inside.running.items, search rules, tt, search rules, λ k d from within. absurd (omega (arith, from, within, c.len-below.ensures)))

pub loop-place-preserved : goal.loop-place-preserved
loop-place-preserved g c =
    let so_far = c.loop-place.invariant in
    let name = g.N.RealmName.table in
    let running = c.loop-place.self-inside.running.items in
    let left = c.swap_remove.new.self.items in
    let first = c.swap_remove.result in
    let ticket = c.new-ticket.result in
    let From : TicketValue → Type 0 = λ t. c.args.scope ≤ t.scope in
    let within_slice : c.in-Some.place < length c.as_slice.result.now = omega (arith, so_far.7, c.in-Some.ensures.found.0, c.as_slice.ensures.len) in
    let within : c.in-Some.place < length running = subst (λ xs. c.in-Some.place < length xs) c.as_slice.ensures.value within_slice in
    let from : From first = subst From (sym c.swap_remove.ensures.value) (subst (λ xs. From (slice_index_or xs c.in-Some.place first)) c.as_slice.ensures.value (c.in-Some.ensures.found.1 first)) in
    let apart : IsPermutation running (first ∷ left) = subst (λ xs. IsPermutation running (first ∷ xs)) (sym c.swap_remove.ensures.items) (IsPermutation-swap_remove running c.in-Some.place first within c.swap_remove.ensures.value) in
    let back : Returns name first ticket = subst (λ t. Returns name t ticket) c.handle.view_is (subst (Returns name (g.S.Spawner.first_of c.handle.inside.handle)) (sym c.new-ticket.ensures) c.join.ensures) in (
      omega (arith, so_far.0, c.swap_remove.ensures.len, c.push_reserved.ensures.len, c.push_reserved.ensures.capacity),
      so_far.1 ++ first ∷ [],
      so_far.2 ++ ticket ∷ [],
      c.push_reserved.ensures.items ∙ (ap (λ xs. xs ++ ticket ∷ []) so_far.3 ∙ append_assoc c.self.inside.returned.items so_far.2 (ticket ∷ [])),
      IsPermutation-trans _ (so_far.1 ++ running) _ so_far.4 (one_moved so_far.1 running first left apart),
      All-push From so_far.1 first so_far.5 from,
      one_returned name so_far.1 so_far.2 first ticket so_far.6 back,
      omega (arith, so_far.7, c.in-Some.ensures.found.0, c.swap_remove.ensures.len),
      earlier_stay (λ t. t.scope) c.args.scope c.in-Some.place _ _ running left c.swap_remove.ensures.len c.swap_remove.ensures.by_index.0 c.swap_remove.ensures.by_index.1 (λ k d after within. subst (λ xs. (slice_index_or xs k d).scope < c.args.scope) c.as_slice.ensures.value (c.in-Some.ensures.last k d after (omega (arith, within, c.as_slice.ensures.len)))),
    )

pub returns : goal.returns
returns g c =
    let joined = c.loop-place.invariant.1 in
    let given = c.loop-place.invariant.2 in
    record {
      none = subst (λ running. All (λ (t : TicketValue). t.scope < c.args.scope) running) c.as_slice.ensures.value c.in_default.ensures.found;
      joined = joined;
      given = given;
      were = subst (λ (t : TeamValue). IsPermutation t.running (joined ++ c.loop-place.self-inside.running.items)) c.self.view_is c.loop-place.invariant.4;
      from = c.loop-place.invariant.5;
      returns = c.loop-place.invariant.6;
      kept = c.loop-place.invariant.3 ∙ ap (λ (t : TeamValue). t.returned ++ given) c.self.view_is;
    }
