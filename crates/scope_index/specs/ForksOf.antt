-- When what is kept of forks is a history's.
use Rattle.std.specs.Prelude.{ℕ, ◌+◌, ◌≡◌, Bool, Some, false, length, slice_get, true}
use Rattle.scope_index.specs.Words.{Event, Fork, History, Open, opened_count, tasks_of}
use Rattle.scope_index.specs.ForkTable.{ForkTable, ForkedTasks}

-- the table has the tasks of each scope that was opened since the base
pub record AreForksOf (h : History) (t : ForkTable) : Type 0 where
  pub numbered : t.before ≡ h.base.scopes
  pub count : length t.lists ≡ opened_count h
  pub lists : (i : ℕ) (x : ForkedTasks) → slice_get t.lists i ≡ Some x → x.numbers ≡ tasks_of h (t.before + 1 + i)

-- the event opens a scope, or forks a task
abbrev pub moves_forks : Event → Bool
moves_forks (Open actor policy options) = true
moves_forks (Fork actor scope label) = true
moves_forks _ = false
