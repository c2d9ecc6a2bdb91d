-- What can be distinguished from the entries of a log alone: each answer of a scope, by its own events and the
-- mark of its cancellation.
use Rattle.std.specs.Prelude.{[], ℕ, ◌++◌, ◌==◌, ◌||◌, ◌∷◌, Bool, List, None, Option, Some, count_by, false, if◌then◌else◌, not, true}
use Rattle.scope_log.specs.Words.{Cause, Completion, Counts, Finished, LogEntry, Never, Outcome, Readable, Running, Stage, State, Unavailable, Waiting, after_first, answer_of, before_first, filter_map, find, has_failed}
use Rattle.scope_log.specs.Words.{has_succeeded, is_settled, is_stage, list_any, listing_by, option_and_then, option_map_or, state_by_end, values_by}
use Rattle.scope_log.specs.{Log.LogValue, declared.previews.Preview.Preview}
use Rattle.scope_log.specs.declared.entries.LogEntry.TheVariants as entry

-- ---- the mark

abbrev pub is_mark : LogEntry → Bool
is_mark (entry.Cancelled cause) = true
is_mark _ = false

abbrev pub cause_said : LogEntry → Option Cause
cause_said (entry.Cancelled cause) = Some cause
cause_said _ = None

-- the scope is cancelled by the cause that its mark says; if there is none, it isn't
unfoldable pub cause_in : List LogEntry → Option Cause
cause_in es = option_and_then cause_said (find is_mark es)

-- the entries before the mark: all, if there is none
unfoldable pub before_mark : List LogEntry → List LogEntry
before_mark es = before_first is_mark es

-- the entries after the mark: none, if there is none
unfoldable pub after_mark : List LogEntry → List LogEntry
after_mark es = after_first is_mark es

-- ---- tasks

abbrev pub task_forked : LogEntry → Option ℕ
task_forked (entry.Fork task actor label) = Some task
task_forked _ = None

-- the tasks of the scope are those that were forked, in order
unfoldable pub tasks_in : List LogEntry → List ℕ
tasks_in es = filter_map task_forked es

abbrev pub forks_task : ℕ → LogEntry → Bool
forks_task k (entry.Fork task actor label) = task == k
forks_task k _ = false

abbrev pub rejects_task : ℕ → LogEntry → Bool
rejects_task k (entry.Reject task) = task == k
rejects_task k _ = false

abbrev pub starts_task : ℕ → LogEntry → Bool
starts_task k (entry.Start task) = task == k
starts_task k _ = false

abbrev pub finishes_task : ℕ → LogEntry → Bool
finishes_task k (entry.Finish task end) = task == k
finishes_task k _ = false

-- a task gets no thread where its fork is after the mark, or it was rejected
unfoldable pub is_never_in : List LogEntry → ℕ → Bool
is_never_in es k = list_any (forks_task k) (after_mark es) || list_any (rejects_task k) es

-- how far a task of the scope has come; what is no task of the scope never runs
unfoldable pub stage_in : List LogEntry → ℕ → Stage
stage_in es k = if not (list_any (forks_task k) es) || is_never_in es k then Never else (if list_any (finishes_task k) es then Finished else (if list_any (starts_task k) es then Running else Waiting))

abbrev pub completion_said : LogEntry → Option Completion
completion_said (entry.Finish task end) = Some (record { task = task; end = end })
completion_said _ = None

-- the completions of the scope are the ends of its tasks, in order
unfoldable pub completions_in : List LogEntry → List Completion
completions_in es = filter_map completion_said es

-- those that can be read are the ones before the mark
abbrev pub readable_in : List LogEntry → List Completion
readable_in es = completions_in (before_mark es)

abbrev pub is_end_of : ℕ → Completion → Bool
is_end_of k d = d.task == k

-- the state of a task is its end, if that can be read
unfoldable pub state_in : List LogEntry → ℕ → State
state_in es k = option_map_or (λ d. state_by_end d.end) (find (is_end_of k) (readable_in es)) Unavailable

abbrev pub is_at_in : List LogEntry → Stage → ℕ → Bool
is_at_in es x k = is_stage x (stage_in es k)

-- how many of these tasks are at each stage
abbrev pub counts_of : List LogEntry → List ℕ → Counts
counts_of es ks = record {
  never = count_by (is_at_in es Never) ks;
  waiting = count_by (is_at_in es Waiting) ks;
  running = count_by (is_at_in es Running) ks;
  finished = count_by (is_at_in es Finished) ks;
}

-- how many tasks are at each stage
unfoldable pub counts_in : List LogEntry → Counts
counts_in es = counts_of es (tasks_in es)

abbrev pub is_unsettled_in : List LogEntry → ℕ → Bool
is_unsettled_in es k = not (is_settled (stage_in es k))

-- no task waits or runs
unfoldable pub settled_in : List LogEntry → Bool
settled_in es = not (list_any (is_unsettled_in es) (tasks_in es))

-- the scope may be joined if it is cancelled or settled
unfoldable pub ready_in : List LogEntry → Bool
ready_in es = list_any is_mark es || settled_in es

-- ---- the outcome

-- what can be read of the tasks, those in fork order
abbrev pub readings_in : List LogEntry → Readable
readings_in es = record {
  failure = find has_failed (readable_in es);
  success = find has_succeeded (readable_in es);
  values = values_by (state_in es) (tasks_in es);
  listing = listing_by (state_in es) (tasks_in es);
}

-- what a join answers next
unfoldable pub answer_in : LogValue → Outcome
answer_in l = answer_of (readings_in l.entries) l.scope l.policy l.expiry (cause_in l.entries)

abbrev pub is_join : LogEntry → Bool
is_join (entry.Join actor) = true
is_join _ = false

-- the log as it was before the join
abbrev pub before_join : LogValue → LogValue
before_join l = record l { entries = before_first is_join l.entries }

-- what the join answered, if there was one: decided by the entries before it
unfoldable pub outcome_in : LogValue → Option Outcome
outcome_in l = if list_any is_join l.entries then Some (answer_in (before_join l)) else None

-- the log with a join by the actor at its end
abbrev pub with_join : ℕ → LogValue → LogValue
with_join a l = record l { entries = l.entries ++ entry.Join a ∷ [] }

-- what a join by the actor would give next: what the log tells now, and the log with the join
abbrev pub preview_in : ℕ → LogValue → Preview
preview_in a l = record { outcome = answer_in l; log = with_join a l }
