-- What a tree keeps of the order in which its scopes were cancelled.
use Rattle.std.specs.Prelude.{ℕ, ◌++◌, ◌<◌, ◌==◌, ◌≡◌, ◌≤◌, All, AllPairs, Bool, List, Option, Some, cond, count_by, false, is_some, length, slice_get, suc, true, vec_capacity, zero}
use Rattle.cancel_tree.specs.Words.{CancelOrder, FirstCancel, Links, ScopeNode, option_and_then}
use Rattle.cancel_tree.specs.{Columns.AreColumns, Order.IsBefore, Rows.IsLatest, Rows.cancelled_at}

-- how often the scope is in the list
abbrev pub times : ℕ → List ℕ → ℕ
times s list = count_by (λ t. t == s) list

-- no scope is in the list twice
abbrev pub IsOnce : List ℕ → Type 0
IsOnce list = (s : ℕ) → times s list ≤ 1

-- whether the scope has a first cancel
abbrev pub has_cancel : List (Option FirstCancel) → ℕ → Bool
has_cancel cancels zero = false
has_cancel cancels (suc i) = is_some (option_and_then (λ o. o) (slice_get cancels i))

-- each scope with a first cancel is in the list once, and no other does
pub record IsListOf (cancels : List (Option FirstCancel)) (list : List ℕ) : Type 0 where
  pub once : (s : ℕ) → times s list ≡ cond (has_cancel cancels s) 1 0
  pub count : length list ≡ count_by is_some cancels

-- the scope became cancelled before the place
pub record IsEarlier (when : ℕ → Option ℕ) (place s : ℕ) : Type 0 where
  pub at : ℕ
  pub is : when s ≡ Some at
  pub earlier : at < place

-- those that became cancelled before the last place are in order in front; the rest became cancelled at
-- that place, and are in order once they were put so
pub record AreRuns (when : ℕ → Option ℕ) (l : CancelOrder) : Type 0 where
  pub front : List ℕ
  pub rest : List ℕ
  pub is : l.scopes.items ≡ front ++ rest
  pub run : length front ≡ l.run
  pub earlier : All (IsEarlier when l.place) front
  pub ordered : AllPairs (IsBefore when) front
  pub now : All (λ s. when s ≡ Some l.place) rest
  pub sorted : l.in_order ≡ true → AllPairs (λ s t. s < t) rest

-- scopes were listed at the end, and nothing else was changed
pub record IsGrown (old new : CancelOrder) : Type 0 where
  pub added : List ℕ
  pub scopes : new.scopes.items ≡ old.scopes.items ++ added
  pub run : new.run ≡ old.run
  pub place : new.place ≡ old.place
  pub in_order : new.in_order ≡ old.in_order
  pub room : vec_capacity new.scopes ≡ vec_capacity old.scopes

-- the cancelled scopes are listed, with room for every scope
pub record AreListed (nodes : List ScopeNode) (cancels : List (Option FirstCancel)) (l : CancelOrder) : Type 0 where
  pub whole : IsListOf cancels l.scopes.items
  pub runs : AreRuns (cancelled_at nodes) l
  pub latest : (place : ℕ) → IsLatest nodes place → l.place ≤ place
  pub room : length cancels ≤ vec_capacity l.scopes

-- all that a tree keeps agrees with its nodes
pub record AreKept (nodes : List ScopeNode) (links : List Links) (cancels : List (Option FirstCancel)) (l : CancelOrder) : Type 0 where
  pub columns : AreColumns nodes links cancels
  pub listed : AreListed nodes cancels l
