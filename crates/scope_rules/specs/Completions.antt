-- Which tasks are a scope's, and which of them completed.
use Rattle.std.specs.Prelude.{ℕ, ◌==◌, Bool, List, None, Option, Some, false, if◌then◌else◌}
use Rattle.scope_rules.specs.Words.{Completion, Event, Finish, filter_map, option_map_or}
use Rattle.scope_rules.specs.History.{History, forking}

-- task k was forked in scope s
unfoldable pub is_task_of : History → ℕ → ℕ → Bool
is_task_of h s k = option_map_or (λ f. f.scope == s) (forking h k) false

abbrev pub completion_of : History → ℕ → Event → Option Completion
completion_of h s (Finish task end) = if is_task_of h s task then Some (record { task = task; end = end }) else None
completion_of h s _ = None

-- the completions of scope s, in order, those after a cancel too
unfoldable pub completions : History → ℕ → List Completion
completions h s = filter_map (completion_of h s) h.events

-- the event completes a task of scope s, and the test holds of the completion
abbrev pub passes_at : (Completion → Bool) → History → ℕ → Event → Bool
passes_at test h s e = option_map_or test (completion_of h s e) false

-- the event, the last of h, ended a task of scope s
abbrev pub completes : History → ℕ → Event → Bool
completes h s (Finish task end) = is_task_of h s task
completes h s _ = false
