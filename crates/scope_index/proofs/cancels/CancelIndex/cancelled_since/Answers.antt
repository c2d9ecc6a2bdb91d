-- The tree's list, with the numbers that were given before it, is the history's.
use Rattle.std.proofs.Common.{ℕ, ◌+◌, ◌∙◌, ◌≤◌, All, List, ap, arith, get_or, length, map, refl, subst, sym}
use Rattle.scope_index.specs.{AreCancelsOf, CancelTable, ScopeNode}
use Rattle.scope_index.proofs.Words.{All-drop, drop-map}
use Rattle.scope_index.proofs.CancelOrders.{listed_within, order_read}
use Rattle.scope_index.proofs.cancels.CancelIndex.cancelled_since.Goals as goal

pub new-requires : goal.new-requires
new-requires c =
    let nodes = c.self.inside.tree in
    let order = c.cancelled_since.ensures.order in
    let within : All (λ n. n ≤ length nodes) c.cancelled_since.result.now = subst (All (λ n. n ≤ length nodes)) (sym order.2) (All-drop (λ n. n ≤ length nodes) c.args.n order.0 (listed_within nodes order.0 order.1)) in
    λ i d lt. let le : get_or c.cancelled_since.result.now i d ≤ length nodes = within i d lt in
    let few = c.self.invariant.numbers in
    omega arith

pub returns : goal.returns
returns c =
    let inside = c.self.inside in
    let table : List ScopeNode → CancelTable = λ ts. record { before = inside.before; moment = inside.moment; nodes = ts; accounts = inside.accounts.items } in
    let f : ℕ → ℕ = λ n. inside.before + n in
    let rows = c.cancelled_since.ensures.order in (
      (refl, (λ t. tt), ap table c.cancelled_since.follows.holds-at-none ∙ c.self.view_is),
      record {
        kept = tt;
        order = λ L h legal was. (
          map f rows.0,
          order_read L h (table inside.tree) rows.0 legal (subst (AreCancelsOf h) (sym c.self.view_is) was) rows.1,
          c.new.ensures ∙ ap (map f) rows.2 ∙ sym (drop-map f c.args.n rows.0),
        );
      },
    )
