-- How far the tasks of scopes have ended.
use Rattle.std.specs.Prelude.{◌<◌, ◌≡◌, ◌≤◌}
use Rattle.script_jobs.specs.Words.{ℕ, History, Some, is_settled, length, nat_cmp, slice_get, stage, tasks_of, true}
use Rattle.std.specs.BTreeMap as tree

-- the first n tasks of scope s neither wait nor run
pub record ArePassed (h : History) (s n : ℕ) : Type 0 where
  pub within : n ≤ length (tasks_of h s)
  pub settled : (i k : ℕ) → i < n → slice_get (tasks_of h s) i ≡ Some k → is_settled (stage h k) ≡ true

-- so it is of each scope for which the table has a number
abbrev pub Knows : History → tree.BTreeMap ℕ ℕ → Type 0
Knows h table = (s n : ℕ) → tree.get nat_cmp table s ≡ Some n → ArePassed h s n
