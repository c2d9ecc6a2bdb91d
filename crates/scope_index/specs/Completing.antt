-- What the end of a task makes of cancels.
use Rattle.std.specs.Prelude.{[], ℕ, ◌++◌, ◌∷◌, ◌≡◌, Bool, List, Some, if◌then◌else◌}
use Rattle.scope_index.specs.Words.{Completion, Joiner, JoinerStanding, StandsFor, fires}
use Rattle.scope_index.specs.CancelTables.{CancelTable, HasCounted, account_at, cancelled}

-- the account of scope s has the completion, and if its joiner fires at it, the scope its own cancel
pub record IsCompleted (old new : CancelTable) (s : ℕ) (d : Completion) (place : ℕ) : Type 0 where
  pub counted_one : CancelTable
  pub fired : Bool
  pub counted : HasCounted old counted_one s d
  pub fires : (a : JoinerStanding) (list : List Completion) → account_at old s ≡ Some a → StandsFor a list → fired ≡ fires a.policy (list ++ d ∷ [])
  pub is : new ≡ (if fired then cancelled counted_one s Joiner place else counted_one)
