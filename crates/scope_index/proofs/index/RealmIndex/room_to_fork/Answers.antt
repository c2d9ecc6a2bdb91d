use Rattle.std.proofs.Common.{◌∙◌, ◌≡◌, ap, arith, length, subst, sym}
use Rattle.scope_index.specs.{HasRoomToFork, IndexTable, IsIndexOf, JoinerStanding}
use Rattle.scope_index.proofs.Words.{some_same}
use Rattle.scope_index.proofs.Forking.{forks_counted, unforked}
use Rattle.scope_index.proofs.index.RealmIndex.room_to_fork.Goals as goal

pub returns-in-Some : goal.returns-in-Some
returns-in-Some c = λ L h legal kept.
    subst (λ (t : IndexTable). HasRoomToFork h t.cancels c.args.scope c.saturating_sub.result) c.self.view_is
    (λ a at.
    let row = c.in-Some.ensures.agrees h (subst (IsIndexOf h) (sym c.self.view_is) kept).rows in
    let few = forks_counted L h c.args.scope c.in-Some.row.now.counts legal row.counts in
    let one : c.account.result.now ≡ a = some_same _ _ (sym c.account.ensures ∙ at) in
    let seen : length c.seen-completed.result.now ≡ length a.seen = ap length c.seen-completed.ensures.value ∙ ap (λ (x : JoinerStanding). length x.seen) one in
    omega (arith, few, seen, c.all_counts.ensures.sum, c.saturating_sub.ensures))

pub returns-in-None : goal.returns-in-None
returns-in-None c = λ L h legal kept.
    subst (λ (t : IndexTable). HasRoomToFork h t.cancels c.args.scope 1) c.self.view_is
    (λ a at. let none = unforked L h c.args.scope legal (c.in-None.ensures.agrees h (subst (IsIndexOf h) (sym c.self.view_is) kept).rows) in omega (arith, none))
