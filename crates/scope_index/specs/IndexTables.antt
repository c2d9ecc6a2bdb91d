-- What is kept of a history, and when.
use Rattle.std.specs.Prelude.{ℕ, ◌+◌, ◌==◌, ◌≡◌, ◌≤◌, Bool, Some, count_by, false, length, slice_get, true}
use Rattle.scope_index.specs.Words.{AreDeadlinesOf, AreEnvsOf, AreRowsOf, Counts, DeadlineTable, EnvTable, Event, Fork, History, JoinerStanding, RowTable}
use Rattle.scope_index.specs.{CancelTables.CancelTable, CancelTables.account_at, CancelsOf.AreCancelsOf, ForkTable.ForkTable, ForksOf.AreForksOf}

pub record IndexTable : Type 0 where
  pub rows : RowTable
  pub cancels : CancelTable
  pub envs : EnvTable
  pub forks : ForkTable
  pub deadlines : DeadlineTable

-- the event forks a task in scope s
abbrev pub forks_in : ℕ → Event → Bool
forks_in s (Fork actor scope label) = scope == s
forks_in s _ = false

-- how many tasks were forked in scope s
abbrev pub forks_of : History → ℕ → ℕ
forks_of h s = count_by (forks_in s) h.events

-- if a closure is shown the completions of a scope, its list has room for one of each task
abbrev pub HasRoomForEnds : History → CancelTable → Type 0
HasRoomForEnds h t = (i : ℕ) (a : JoinerStanding) → slice_get t.accounts i ≡ Some a → a.has_closure ≡ true → forks_of h (t.before + 1 + i) ≤ length a.seen + a.room

-- how many tasks the counts come to
abbrev pub all_counts : Counts → ℕ
all_counts n = (n.never + n.waiting) + (n.running + n.finished)

-- so much more room is enough for all that was forked in scope s to complete, and one task more
abbrev pub HasRoomToFork : History → CancelTable → ℕ → ℕ → Type 0
HasRoomToFork h t s more = (a : JoinerStanding) → account_at t s ≡ Some a → forks_of h s + 1 ≤ length a.seen + more

-- each part is that of the history, and there is room for all that may still complete
pub record IsIndexOf (h : History) (t : IndexTable) : Type 0 where
  pub rows : AreRowsOf h t.rows
  pub cancels : AreCancelsOf h t.cancels
  pub envs : AreEnvsOf h t.envs
  pub forks : AreForksOf h t.forks
  pub deadlines : AreDeadlinesOf h t.deadlines
  pub room : HasRoomForEnds h t.cancels

-- the parts have rows for the same scopes and tasks
pub record AreAlike (rows : RowTable) (cancels : CancelTable) (envs : EnvTable) (forks : ForkTable) (deadlines : DeadlineTable) : Type 0 where
  pub scopes_before : cancels.before ≡ rows.scopes_before
  pub scopes : length cancels.nodes ≡ length rows.scopes
  pub accounts : length cancels.accounts ≡ length rows.scopes
  pub tasks_before : envs.before ≡ rows.tasks_before
  pub tasks : length envs.tasks ≡ length rows.tasks
  pub forks_before : forks.before ≡ rows.scopes_before
  pub lists : length forks.lists ≡ length rows.scopes
  pub deadlines_before : deadlines.before ≡ rows.scopes_before
  pub deadline_count : length deadlines.deadlines ≡ length rows.scopes
