-- The nodes of a tree: one for each scope, in order of their numbers, which count from 1.
use Rattle.std.specs.Prelude.{[], ℕ, ◌+◌, ◌-◌, ◌∷◌, ◌≡◌, ◌≤◌, Bool, List, None, Option, Some, cond, length, max, slice_get, suc, zero}
use Rattle.cancel_tree.specs.Words.{Cause, CauseKind, Effective, FirstCancel, ScopeNode, chain_by, effective_by, first_cancel_by, option_and_then, option_map, option_or}

-- the row of the scope
abbrev pub row : List ScopeNode → ℕ → Option ScopeNode
row nodes zero = None
row nodes (suc i) = slice_get nodes i

-- the scope is one of the tree's
abbrev pub IsAdded : List ScopeNode → ℕ → Type 0
IsAdded nodes s = (1 ≤ s) × (s ≤ length nodes)

-- the scope around a scope, shielded or not
abbrev pub parent_of : List ScopeNode → ℕ → Option ℕ
parent_of nodes s = option_and_then (λ t. t.parent) (row nodes s)

-- the scope whose cancels reach it: the parent of one that is not shielded
abbrev pub outer : ScopeNode → Option ℕ
outer t = cond t.shield None t.parent

abbrev pub outer_of : List ScopeNode → ℕ → Option ℕ
outer_of nodes s = option_and_then outer (row nodes s)

-- its own cancel
abbrev pub own_of : List ScopeNode → ℕ → Option FirstCancel
own_of nodes s = option_and_then (λ t. t.own) (row nodes s)

-- its own deadline
abbrev pub deadline_of : List ScopeNode → ℕ → Option ℕ
deadline_of nodes s = option_and_then (λ t. t.deadline) (row nodes s)

-- how many scopes lie around one another from it outwards, itself included
abbrev pub level_of : List ScopeNode → ℕ → ℕ
level_of nodes s = length (chain_by (parent_of nodes) s)

-- the level of a scope with this parent
abbrev pub level_in : List ScopeNode → Option ℕ → ℕ
level_in nodes None = 1
level_in nodes (Some p) = level_of nodes p + 1

-- the earliest own cancel on its chain, the nearest on a tie
abbrev pub cancel_of : List ScopeNode → ℕ → Option FirstCancel
cancel_of nodes s = first_cancel_by (outer_of nodes) (own_of nodes) s

-- the scope whose own cancel that is, and its kind
abbrev pub cause_of : List ScopeNode → ℕ → Option Cause
cause_of nodes s = option_map (λ c. c.cause) (cancel_of nodes s)

-- the place of that own cancel
abbrev pub place_of : List ScopeNode → ℕ → Option ℕ
place_of nodes s = option_map (λ c. c.place) (cancel_of nodes s)

-- past, if it is cancelled, and else the least deadline on its chain
abbrev pub effective_of : List ScopeNode → ℕ → Effective
effective_of nodes s = effective_by (outer_of nodes) (own_of nodes) (deadline_of nodes) s

-- the place of its opening
abbrev pub opened_of : List ScopeNode → ℕ → Option ℕ
opened_of nodes s = option_map (λ t. t.opened) (row nodes s)

-- the place at which it became cancelled, not before its opening
abbrev pub cancelled_at : List ScopeNode → ℕ → Option ℕ
cancelled_at nodes s = option_and_then (λ n. option_map (λ c. max n c.place) (cancel_of nodes s)) (opened_of nodes s)

-- no own cancel and no opening is at a later place
pub record IsLatest (nodes : List ScopeNode) (place : ℕ) : Type 0 where
  pub own : (s : ℕ) (c : FirstCancel) → own_of nodes s ≡ Some c → c.place ≤ place
  pub opening : (s n : ℕ) → opened_of nodes s ≡ Some n → n ≤ place

-- ---- what the calls make of the rows

-- the node of a scope of which only its place in the tree is known, opened at this place
abbrev pub new_row : Option ℕ → Bool → ℕ → ScopeNode
new_row parent shield opened = record { parent = parent; shield = shield; opened = opened; own = None; deadline = None }

-- a cancel of the scope, at this place
abbrev pub cancel_at : ℕ → ℕ → CauseKind → FirstCancel
cancel_at place scope kind = record { place = place; cause = record { scope = scope; kind = kind } }

-- an own cancel stays once it is set
abbrev pub with_own : FirstCancel → ScopeNode → ScopeNode
with_own first_cancel t = record t { own = option_or t.own (Some first_cancel) }

abbrev pub with_deadline : Option ℕ → ScopeNode → ScopeNode
with_deadline deadline t = record t { deadline = deadline }

-- the rows with the i-th, from 0, changed
abbrev pub altered : (ScopeNode → ScopeNode) → List ScopeNode → ℕ → List ScopeNode
altered f [] i = []
altered f (t ∷ ts) zero = f t ∷ ts
altered f (t ∷ ts) (suc i) = t ∷ altered f ts i

-- the rows with that of the scope changed
abbrev pub changed : List ScopeNode → ℕ → (ScopeNode → ScopeNode) → List ScopeNode
changed nodes s f = altered f nodes (s - 1)
