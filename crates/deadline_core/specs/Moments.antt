-- What an index of deadlines stands for: a finite map from scopes to moments, and which of its scopes are due.
use Rattle.std.specs.Prelude.{ℕ, ◌<◌, ◌↔◌, ◌≡◌, ◌≤◌, Bool, IsTrue, List, None, Option, Some, false, length, nat_le, slice_get, slice_index}
use Rattle.std.specs.{List.Contains, Ordering.nat_cmp}
use Rattle.std.specs.FinMap as map

-- the deadline, in milliseconds, of each scope that has one
abbrev pub Moments : Type 0
Moments = map.FinMap nat_cmp ℕ

-- whether a deadline is at or before the moment
abbrev pub is_past : ℕ → Option ℕ → Bool
is_past now None = false
is_past now (Some deadline) = nat_le deadline now

-- whether the scope has a deadline at or before the moment
abbrev pub is_due : Moments → ℕ → ℕ → Bool
is_due m now scope = is_past now (map.get m scope)

-- the deadline is the scope's, no scope has an earlier one, and none with a lower number has the same
pub record IsFirst (m : Moments) (deadline scope : ℕ) : Type 0 where
  pub stands : map.get m scope ≡ Some deadline
  pub earliest : (other later : ℕ) → map.get m other ≡ Some later → deadline ≤ later
  pub least : (other : ℕ) → map.get m other ≡ Some deadline → scope ≤ other

-- the first scope in the order of deadlines, and then of numbers, and it is due
pub record IsFirstDue (m : Moments) (now scope : ℕ) : Type 0 where
  pub deadline : ℕ
  pub first : IsFirst m deadline scope
  pub past : deadline ≤ now

-- the one scope's deadline is before the other's, or is the same and its number is lower
abbrev pub Precedes : Moments → ℕ → ℕ → Type 0
Precedes m one other = (a b : ℕ) → map.get m one ≡ Some a → map.get m other ≡ Some b → (a ≤ b) × (a ≡ b → one < other)

-- the list has each scope that is due and no other, by deadline and then by number
pub record IsDueInOrder (m : Moments) (now : ℕ) (scopes : List ℕ) : Type 0 where
  pub all : (scope : ℕ) → Contains scopes scope ↔ IsTrue (is_due m now scope)
  pub in_order : (i j : ℕ) → i < j → j < length scopes → Precedes m (slice_index scopes i) (slice_index scopes j)

-- the pairs are the deadline of each scope that has one, with the scope, the earlier first
pub record AreInOrder (m : Moments) (pairs : List (ℕ × ℕ)) : Type 0 where
  pub each : (i : ℕ) (p : ℕ × ℕ) → slice_get pairs i ≡ Some p → map.get m p.1 ≡ Some p.0
  pub all : (scope deadline : ℕ) → map.get m scope ≡ Some deadline → (i : ℕ) × (slice_get pairs i ≡ Some (deadline, scope))
  pub in_order : (i j : ℕ) (p q : ℕ × ℕ) → i < j → slice_get pairs i ≡ Some p → slice_get pairs j ≡ Some q → p.0 ≤ q.0
