-- What the rows, the account and the tasks of a scope say of what its join answers.
use Rattle.std.specs.Prelude.{ℕ, IsSome, List, None, Option, Some, if◌then◌else◌, nat_lt}
use Rattle.scope_index.specs.Words.{Cause, Completion, FirstCancel, Readable, RowTable, State, Totals, Unavailable, is_available, listing_by, option_and_then, option_map_or, scope_row, task_row, values_by}

-- what the first cancel says before place i: nothing, if it came later
abbrev pub cause_before : Option FirstCancel → ℕ → Option Cause
cause_before None i = None
cause_before (Some c) i = if nat_lt c.place i then Some c.cause else None

-- the state that the row of the task has
abbrev pub state_in : RowTable → ℕ → State
state_in t k = option_map_or (λ r. r.state) (task_row t k) Unavailable

-- the completion, if its task's row can be read
abbrev pub readable_in : RowTable → Completion → Option Completion
readable_in t d = if is_available (state_in t d.task) then Some d else None

-- what the rows, what the completions came to, and the tasks say
abbrev pub readable_by : RowTable → Totals → List ℕ → Readable
readable_by t totals ks = record {
  failure = option_and_then (readable_in t) totals.first_failure;
  success = option_and_then (readable_in t) totals.first_success;
  values = values_by (state_in t) ks;
  listing = listing_by (state_in t) ks;
}

-- the scope has a row, which has the place of its join
abbrev pub HasJoined : RowTable → ℕ → Type 0
HasJoined t s = IsSome (option_and_then (λ r. r.joined) (scope_row t s))
