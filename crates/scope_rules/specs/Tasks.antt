-- How far tasks have come, what they gave, and whether a scope may be joined.
use Rattle.std.specs.Prelude.{ℕ, ◌&&◌, ◌==◌, ◌||◌, Bool, Err, None, Ok, Option, Some, count_by, false, if◌then◌else◌, length, not, slice_get, true}
use Rattle.scope_rules.specs.Words.{Counts, Ending, Event, Finish, Finished, Forking, Reject, Running, Stage, Start, State, Success, Waiting, list_any, option_and_then, option_map_or}
use Rattle.scope_rules.specs.{Cancels.cancelled_before, Cancels.is_cancelled, Completions.is_task_of, Ends.EndValue, History.History, History.forking, History.task_numbers, Search.earliest}
use Rattle.scope_rules.specs.{declared.types.answers.Stage.TheVariants.Never, declared.types.answers.State.TheVariants.Failed, declared.types.answers.State.TheVariants.Unavailable}

abbrev pub rejects : ℕ → Event → Bool
rejects k (Reject task) = task == k
rejects k _ = false

unfoldable pub rejected : History → ℕ → Bool
rejected h k = list_any (rejects k) h.events

abbrev pub starts : ℕ → Event → Bool
starts k (Start task) = task == k
starts k _ = false

unfoldable pub started : History → ℕ → Bool
started h k = list_any (starts k) h.events

abbrev pub finishes : ℕ → Event → Bool
finishes k (Finish task end) = task == k
finishes k _ = false

unfoldable pub finished : History → ℕ → Bool
finished h k = list_any (finishes k) h.events

abbrev pub ending_of : ℕ → ℕ → Event → Option Ending
ending_of k i (Finish task end) = if task == k then Some (record { place = i; end = end }) else None
ending_of k i _ = None

abbrev pub ending_at : History → ℕ → ℕ → Option Ending
ending_at h k i = option_and_then (ending_of k i) (slice_get h.events i)

-- the end of task k, with its place
unfoldable pub ending : History → ℕ → Option Ending
ending h k = earliest (ending_at h k) (length h.events)

-- the stage of the task that was forked so
unfoldable pub stage_of : History → ℕ → Forking → Stage
stage_of h k f = if cancelled_before h f.scope f.place || rejected h k then Never else (if finished h k then Finished else (if started h k then Running else Waiting))

-- the stage of task k
unfoldable pub stage : History → ℕ → Stage
stage h k = option_map_or (stage_of h k) (forking h k) Never

abbrev pub is_never : Stage → Bool
is_never Never = true
is_never _ = false

abbrev pub is_waiting : Stage → Bool
is_waiting Waiting = true
is_waiting _ = false

abbrev pub is_running : Stage → Bool
is_running Running = true
is_running _ = false

abbrev pub is_finished : Stage → Bool
is_finished Finished = true
is_finished _ = false

abbrev pub is_settled : Stage → Bool
is_settled x = is_never x || is_finished x

-- what can be read of a task that ended so
abbrev pub state_by_end : EndValue → State
state_by_end (Ok value) = Success value
state_by_end (Err fault) = Failed fault

-- a task's state, by its forking and its end: an end that came after the cancel can't be read
abbrev pub state_of : History → Forking → Ending → State
state_of h f e = if cancelled_before h f.scope e.place then Unavailable else state_by_end e.end

-- the state of task k
unfoldable pub state : History → ℕ → State
state h k = option_map_or (λ f. option_map_or (state_of h f) (ending h k) Unavailable) (forking h k) Unavailable

-- a task was forked in scope s
unfoldable pub has_tasks : History → ℕ → Bool
has_tasks h s = list_any (is_task_of h s) (task_numbers h)

abbrev pub is_stage : Stage → Stage → Bool
is_stage Never x = is_never x
is_stage Waiting x = is_waiting x
is_stage Running x = is_running x
is_stage Finished x = is_finished x

-- task k is one of scope s, at the stage
abbrev pub is_at : History → ℕ → Stage → ℕ → Bool
is_at h s x k = is_task_of h s k && is_stage x (stage h k)

-- how many tasks of scope s are at each stage
unfoldable pub counts : History → ℕ → Counts
counts h s = record {
  never = count_by (is_at h s Never) (task_numbers h);
  waiting = count_by (is_at h s Waiting) (task_numbers h);
  running = count_by (is_at h s Running) (task_numbers h);
  finished = count_by (is_at h s Finished) (task_numbers h);
}

-- task k is one of scope s, and waits or runs
abbrev pub is_unsettled : History → ℕ → ℕ → Bool
is_unsettled h s k = is_task_of h s k && not (is_settled (stage h k))

-- no task of scope s waits or runs
unfoldable pub settled : History → ℕ → Bool
settled h s = not (list_any (is_unsettled h s) (task_numbers h))

-- scope s may be joined: it is cancelled, or none of its tasks waits or runs
unfoldable pub ready : History → ℕ → Bool
ready h s = is_cancelled h s || settled h s
