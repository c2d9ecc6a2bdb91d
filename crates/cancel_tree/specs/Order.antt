-- The scopes in order of their cancellation.
use Rattle.std.specs.Prelude.{ℕ, ◌<◌, ◌≡◌, ◌≤◌, AllPairs, Bool, List, Option, Some, is_some, true}
use Rattle.cancel_tree.specs.Words.{Contains, ScopeNode}
use Rattle.cancel_tree.specs.Rows.{cancel_of, cancelled_at}

-- s became cancelled before t, or at the same place, and then s has the smaller number
pub record IsBefore (when : ℕ → Option ℕ) (s t : ℕ) : Type 0 where
  pub first : ℕ
  pub then : ℕ
  pub is_first : when s ≡ Some first
  pub is_then : when t ≡ Some then
  pub not_later : first ≤ then
  pub by_number : first ≡ then → s < t

-- the list has exactly the cancelled scopes, and each comes before those after it, so that none is twice
pub record IsInOrder (is_cancelled : ℕ → Bool) (when : ℕ → Option ℕ) (list : List ℕ) : Type 0 where
  pub all : (s : ℕ) → is_cancelled s ≡ true → Contains list s
  pub only : (s : ℕ) → Contains list s → is_cancelled s ≡ true
  pub ascends : AllPairs (IsBefore when) list

-- the list is that of the tree's cancelled scopes in order of their cancellation
abbrev pub IsCancelOrder : List ScopeNode → List ℕ → Type 0
IsCancelOrder nodes list = IsInOrder (λ s. is_some (cancel_of nodes s)) (cancelled_at nodes) list
