-- What is kept before the first event.
use Rattle.std.proofs.Common.{[], ℕ, ◌≡◌, Some, refl, suc, sym, zero}
use Rattle.scope_index.specs.{AreCancelsOf, Origin, ScopeNode, last_of, moment}
use Rattle.cancel_tree.specs.Rows as rows

no_row : (n : ℕ) (t : ScopeNode) → rows.row [] n ≡ Some t → ⊥
no_row zero t is = absurd cc
no_row (suc n) t is = absurd cc

-- no rows, and the base's numbers and moment
pub begun : (before now : ℕ) (b : Origin) → b.scopes ≡ before → b.moment ≡ now → AreCancelsOf (record { base = b; events = [] }) (record { before = before; moment = now; nodes = []; accounts = [] })
unfolding moment last_of
begun before now b scopes at = record {
  numbered = sym scopes;
  moment = sym at;
  count = refl;
  counted = refl;
  rows = λ n row is. absurd (no_row n row is);
  accounts = λ i a is. absurd cc;
}
