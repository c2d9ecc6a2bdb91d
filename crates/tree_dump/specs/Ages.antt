-- How long tasks run and scopes are open, by a clock.
use Rattle.std.specs.Prelude.{[], ℕ, ◌%◌, ◌&&◌, ◌++◌, ◌-◌, ◌/◌, Bool, List, None, Option, Some, codes, false, if◌then◌else◌, is_none, nat_le, nat_lt, not, option_map, slice_get, true}
use Rattle.tree_dump.specs.Terms.{Ages, CurrentWait, Finished, History, Running, ScopeInfo, Stage, TaskTimes, Waiting, decimal, is_finished, option_and_then}

-- the last reading of a clock, if it was read, and the readings as tasks were forked, started and ended and as scopes were opened,
-- by number since the base; and in which calls main and these tasks wait, if they do
pub record Clock : Type 0 where
  pub now : Option ℕ
  pub forked : List ℕ
  pub started : List ℕ
  pub ended : List ℕ
  pub opened : List ℕ
  pub main : Option CurrentWait
  pub waits : List (Option CurrentWait)

abbrev pub clock_of : Ages → Clock
clock_of a = record { now = a.last; forked = a.forked.now; started = a.started.now; ended = a.ended.now; opened = a.opened.now; main = a.waits.main; waits = a.waits.tasks.now }

-- without readings
abbrev pub no_clock : Clock
no_clock = record { now = None; forked = []; started = []; ended = []; opened = []; main = None; waits = [] }

-- what there is for the number, of those behind `before`
abbrev pub reading_in : {A : Type 0} → List A → ℕ → ℕ → Option A
reading_in readings before number = if nat_lt before number then slice_get readings (number - before - 1) else None

-- how long it is since a reading, if the clock was read: it is never negative
abbrev pub since : Clock → ℕ → Option ℕ
since c reading = option_map (λ now. now - reading) c.now

-- the reading as task k started, if it runs, or as it was forked, if it waits, if that is known
abbrev pub task_reading : Clock → History → ℕ → Stage → Option ℕ
task_reading c h k Waiting = reading_in c.forked h.base.tasks k
task_reading c h k Running = reading_in c.started h.base.tasks k
task_reading c h k _ = None

-- how long task k waits or runs, if it does and that reading is known
abbrev pub task_age : Clock → History → ℕ → Stage → Option ℕ
task_age c h k stage = option_and_then (since c) (task_reading c h k stage)

-- the reading as scope s was opened, if it is known
abbrev pub scope_since : Clock → History → ℕ → Option ℕ
scope_since c h s = reading_in c.opened h.base.scopes s

-- how long scope s is open, if the reading as it was opened is known
abbrev pub scope_age : Clock → History → ℕ → Option ℕ
scope_age c h s = option_and_then (since c) (scope_since c h s)

abbrev pub runs_or_ran : Stage → Bool
runs_or_ran Running = true
runs_or_ran Finished = true
runs_or_ran _ = false

-- the readings as task k ended, if it finished, and started, if it runs or ran, each if the reading is known
abbrev pub task_times : Clock → History → ℕ → Stage → TaskTimes
task_times c h k stage = record {
  ended = if is_finished stage then reading_in c.ended h.base.tasks k else None;
  since = if runs_or_ran stage then reading_in c.started h.base.tasks k else None;
}

-- how late it is by now, if the deadline is past, and the scope is not joined
abbrev pub late_by : Clock → Bool → Option ℕ → Option ℕ
late_by c joined deadline = option_and_then (λ now. option_and_then (λ d. if not joined && nat_lt d now then Some (now - d) else None) deadline) c.now

-- the same, if the clock was read as the scope was opened
abbrev pub scope_late : Clock → History → ScopeInfo → Option ℕ
scope_late c h i = option_and_then (λ age. late_by c i.joined i.deadline) (scope_age c h i.scope)

-- in how long the deadline comes, if it is not past, and can do something: the scope isn't joined or cancelled
abbrev pub due_in : Clock → ScopeInfo → Option ℕ
due_in c i = option_and_then (λ now. option_and_then (λ d. if not i.joined && is_none i.cause && nat_le now d then Some (d - now) else None) i.deadline) c.now

-- these words, and behind them so many milliseconds, from a second on as seconds with tenths; nothing if none are known
unfoldable pub span_text : List ℕ → Option ℕ → List ℕ
span_text words None = []
span_text words (Some ms) = if nat_lt ms 1000 then words ++ decimal ms ++ codes " ms" else words ++ decimal (ms / 1000) ++ codes "." ++ decimal (ms / 100 % 10) ++ codes " s"
