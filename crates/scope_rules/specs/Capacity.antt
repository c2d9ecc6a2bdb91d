-- Which limits a realm can be given.
use Rattle.std.specs.Prelude.{ℕ, ◌≤◌}
use Rattle.scope_rules.specs.Words.{LOAD_LIMIT, SCOPE_LIMIT, TASK_LIMIT}

pub record IsAllowed (scopes tasks load : ℕ) : Type 0 where
  pub some_scopes : 1 ≤ scopes
  pub scopes_in_range : scopes ≤ SCOPE_LIMIT
  pub some_tasks : 1 ≤ tasks
  pub tasks_in_range : tasks ≤ TASK_LIMIT
  pub some_load : 1 ≤ load
  pub load_in_range : load ≤ LOAD_LIMIT
