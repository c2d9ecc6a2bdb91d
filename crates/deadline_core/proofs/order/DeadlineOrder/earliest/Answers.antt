-- The first pair of the order is the first deadline, and an order without one leaves no deadline.
use Rattle.std.proofs.Common.{[], ℕ, ◌∷◌, ◌≡◌, Bool, Bor, List, None, Option, Some, arith, false, length, refl, subst, sym, true}
use Rattle.deadline_core.specs.{IfSome, IsFirst, Moments.Moments, is_at, is_gt, list_any, option_copied, pair_cmp}
use Rattle.deadline_core.proofs.{Due.has, First.IfNone_copied, First.empty_order, First.first_of_order, Listing.Lists, Pairs.listed_of}
use Rattle.std.specs.FinMap as map
use Rattle.deadline_core.proofs.order.DeadlineOrder.earliest.Goals as goal

first_copied : (r : Option (Bor (ℕ × ℕ))) (o : Option (ℕ × ℕ)) (has : ℕ → ℕ → Bool) (m : Moments) → Lists has (map.get m) → o ≡ option_copied r
    → IfSome r (λ k. has k.now.0 k.now.1 ≡ true) → IfSome r (λ k. (q : ℕ × ℕ) → has q.0 q.1 ≡ true → is_gt (pair_cmp k.now q) ≡ false)
    → IfSome o (λ p. IsFirst m p.0 p.1)
first_copied None o has m lists e member least = subst (λ x. IfSome x (λ p. IsFirst m p.0 p.1)) (sym e) tt
first_copied (Some k) o has m lists e member least =
    subst (λ x. IfSome x (λ p. IsFirst m p.0 p.1)) (sym e) (first_of_order has m lists k.now.0 k.now.1 member (λ d s h. least (d, s) h))

none_of : (keys : List (ℕ × ℕ)) (q : ℕ × ℕ) → length keys ≡ 0 → list_any (is_at (pair_cmp q)) keys ≡ false
none_of [] q e = refl
none_of (k ∷ ks) q e = absurd (omega arith)

pub returns-clause-none : goal.returns-clause-none
returns-clause-none c =
    let order = c.self.inside.pairs in
    let lists = listed_of order.keys c.args.self.now c.self.view_is c.self.invariant.one in
    IfNone_copied c.first.result _ (length order.keys) _ c.copied.ensures c.first.ensures.variant
    (λ e. empty_order _ c.args.self.now lists (λ e2 t. none_of order.keys (e2, t) e))

pub returns-clause-first : goal.returns-clause-first
returns-clause-first c =
    let m = c.args.self.now in
    let lists = listed_of c.self.inside.pairs.keys m c.self.view_is c.self.invariant.one in
    first_copied c.first.result _ (has c.self.inside.pairs.keys) m lists c.copied.ensures c.first.ensures.member c.first.ensures.least
