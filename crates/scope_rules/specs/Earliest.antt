-- What the first cancel of a chain is, said of its scopes one by one.
use Rattle.std.specs.Prelude.{ℕ, ◌<◌, ◌≡◌, ◌≤◌, List, MatchOption, None, Option, Some, length, slice_index}
use Rattle.scope_rules.specs.Words.{FirstCancel}

-- the first cancel is the own cancel of the i-th scope; none of the scopes has an earlier one, and none before the i-th has one as early
pub record IsEarliestAt (own : ℕ → Option FirstCancel) (scopes : List ℕ) (first_cancel : FirstCancel) (i : ℕ) : Type 0 where
  pub within : i < length scopes
  pub stands : own (slice_index scopes i) ≡ Some first_cancel
  pub none_earlier : (j : ℕ) (other : FirstCancel) → j < length scopes → own (slice_index scopes j) ≡ Some other → first_cancel.place ≤ other.place
  pub none_nearer : (j : ℕ) (other : FirstCancel) → j < i → own (slice_index scopes j) ≡ Some other → first_cancel.place < other.place

-- none of the scopes has an own cancel, or the first cancel is the earliest, and the nearest on a tie
abbrev pub IsEarliest : (ℕ → Option FirstCancel) → List ℕ → Option FirstCancel → Type 0
IsEarliest own scopes first_cancel = MatchOption first_cancel ((j : ℕ) → j < length scopes → own (slice_index scopes j) ≡ None) (λ c. (i : ℕ) × IsEarliestAt own scopes c i)
