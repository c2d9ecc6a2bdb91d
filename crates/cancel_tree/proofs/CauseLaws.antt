-- The cause of a scope is a scope on its chain, and has no greater number.
use Rattle.std.proofs.Common.{ℕ, ◌≡◌, ◌≤◌, List, None, Option, Some, arith, get_or, refl, subst, suc, sym, zero}
use Rattle.cancel_tree.specs.{All, Contains, FirstCancel, IfSome, IsEarliest, IsInward, ScopeNode, cancel_of, cause_of, chain_by, onward, option_map, outer_of, outwards, own_of}
use Rattle.cancel_tree.proofs.Words.{All-cons, All-contains, All-nil, Contains-get_or, cancel_earliest}

-- each own cancel names its scope
abbrev pub IsNamed : List ScopeNode → Type 0
IsNamed nodes = (s : ℕ) (c : FirstCancel) → own_of nodes s ≡ Some c → c.cause.scope ≡ s

on_chain : (own : ℕ → Option FirstCancel) → ((s : ℕ) (c : FirstCancel) → own s ≡ Some c → c.cause.scope ≡ s) → (scopes : List ℕ) (first_cancel : Option FirstCancel) → IsEarliest own scopes first_cancel
    → IfSome (option_map (λ (c : FirstCancel). c.cause) first_cancel) (λ cause. Contains scopes cause.scope)
on_chain own named scopes None h = tt
on_chain own named scopes (Some c) h = subst (Contains scopes) (sym (named (get_or scopes h.0 0) c h.1.stands)) (Contains-get_or scopes h.0 0 h.1.within)

-- the cause is on the chain
pub cause_on_chain : (nodes : List ScopeNode) (s : ℕ) → IsNamed nodes → IfSome (cause_of nodes s) (λ cause. Contains (chain_by (outer_of nodes) s) cause.scope)
cause_on_chain nodes s named = on_chain (own_of nodes) named (chain_by (outer_of nodes) s) _ (cancel_earliest (outer_of nodes) (own_of nodes) s)

-- what lies outwards of a scope has no greater number
outwards_below : (outer : ℕ → Option ℕ) → IsInward outer → (n s m : ℕ) → s ≤ m → All (λ p. p ≤ m) (outwards outer n s)
outwards_below outer inward zero s m within = All-nil (λ p. p ≤ m)
outwards_below outer inward (suc n) s m within = All-cons (λ p. p ≤ m) s _ within (rest (outer s) (λ p is. outwards_below outer inward n p m (omega (arith, (inward s p is).1, within))))
  where
    rest : (o : Option ℕ) → ((p : ℕ) → o ≡ Some p → All (λ x. x ≤ m) (outwards outer n p)) → All (λ x. x ≤ m) (onward o (outwards outer n))
    rest None all = All-nil (λ x. x ≤ m)
    rest (Some p) all = all p refl

below : (scopes : List ℕ) (s : ℕ) (o : Option FirstCancel) → All (λ p. p ≤ s) scopes → IfSome (option_map (λ (c : FirstCancel). c.cause) o) (λ c. Contains scopes c.scope) → IfSome o (λ c. c.cause.scope ≤ s)
below scopes s None all on = tt
below scopes s (Some c) all on = All-contains (λ p. p ≤ s) scopes c.cause.scope all on

-- the scope whose own cancel is the first cancel has no greater number
pub cancel_within : (nodes : List ScopeNode) (s : ℕ) → IsNamed nodes → IsInward (outer_of nodes) → IfSome (cancel_of nodes s) (λ c. c.cause.scope ≤ s)
unfolding chain_by
cancel_within nodes s named inward = below (chain_by (outer_of nodes) s) s (cancel_of nodes s) (outwards_below (outer_of nodes) inward (suc s) s s (omega arith)) (cause_on_chain nodes s named)
