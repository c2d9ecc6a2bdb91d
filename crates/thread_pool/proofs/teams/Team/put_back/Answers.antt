use Rattle.std.proofs.Common.{[], ◌++◌, ◌∙◌, ◌∷◌, ◌≡◌, ap, arith, rules, subst, sym}
use Rattle.thread_pool.specs.{IsPermutation, TicketValue}
use Rattle.thread_pool.proofs.Words.{All-pop, IsPermutation-to_front, IsPermutation-trans, append-nil}
use Rattle.thread_pool.proofs.Moved.{one_moved}
use Rattle.thread_pool.proofs.teams.Team.put_back.Goals as goal

pub loop-ticket-preserved : goal.loop-ticket-preserved
loop-ticket-preserved g c =
    let so_far = c.loop-ticket.invariant in
    let ticket = c.new.result in
    let left = c.pop.new.self.items in
    let returned = c.loop-ticket.self-inside.returned.items in
    let popped : c.loop-ticket.tickets.items ≡ left ++ ticket ∷ [] = c.in-Some.ensures.items ∙ ap (λ t. left ++ t ∷ []) (sym c.new.ensures) in
    let moved = one_moved returned (left ++ ticket ∷ []) ticket left (IsPermutation-to_front left ticket) in (
      (All-pop (λ (t : TicketValue). t.table ≡ g.N.RealmName.table) c.loop-ticket.tickets.items left c.pop.result c.pop.ensures.items so_far.0).0,
      omega (arith, so_far.1, c.in-Some.ensures.len, c.push_reserved.ensures.len, c.push_reserved.ensures.capacity),
      so_far.2,
      IsPermutation-trans _ _ _ so_far.3 (subst (λ xs. IsPermutation (returned ++ xs) (c.push_reserved.new.self.items ++ left)) (sym popped) (subst (λ xs. IsPermutation (returned ++ (left ++ ticket ∷ [])) (xs ++ left)) (sym c.push_reserved.ensures.items) moved)),
    )

pub returns-clause-returned : goal.returns-clause-returned
returns-clause-returned g c =
    let all = c.self.inside.returned.items ++ c.args.tickets.items in
    let returned = c.loop-ticket.self-inside.returned.items in
    let none : c.loop-ticket.tickets.items ≡ [] = search rules in
    let same = subst (λ xs. IsPermutation all (returned ++ xs)) none c.loop-ticket.invariant.3 in
    subst (λ xs. IsPermutation (xs ++ c.args.tickets.items) returned) (ap (λ t. t.returned) c.self.view_is) (subst (IsPermutation all) (append-nil returned) same)
