-- Which events may still come that cost nothing: room for them is made before.
use Rattle.std.specs.Prelude.{ℕ, ◌+◌, ◌==◌, Bool, List, None, Option, Some, count_by, false, not}
use Rattle.scope_rules.specs.Words.{BeginClose, EndClose, Event, Finish, Join, Reject, Start, list_any, option_map_or}
use Rattle.scope_rules.specs.History.{History, scope_numbers, task_numbers}

-- the events that are still to come once for each scope or task
abbrev pub join_mark : Event → Option ℕ
join_mark (Join actor scope) = Some scope
join_mark _ = None

abbrev pub begin_mark : Event → Option ℕ
begin_mark (BeginClose actor scope) = Some scope
begin_mark _ = None

abbrev pub end_mark : Event → Option ℕ
end_mark (EndClose actor scope) = Some scope
end_mark _ = None

abbrev pub take_mark : Event → Option ℕ
take_mark (Reject task) = Some task
take_mark (Start task) = Some task
take_mark _ = None

abbrev pub finish_mark : Event → Option ℕ
finish_mark (Finish task end) = Some task
finish_mark _ = None

-- the event is this number's
abbrev pub marks : (Event → Option ℕ) → ℕ → Event → Bool
marks mark n e = option_map_or (λ m. m == n) (mark e) false

-- none of the events is this number's
abbrev pub lacks : (Event → Option ℕ) → List Event → ℕ → Bool
lacks mark es n = not (list_any (marks mark n) es)

-- for how many of the numbers the event is still to come
unfoldable pub missing : (Event → Option ℕ) → List ℕ → List Event → ℕ
missing mark ns es = count_by (lacks mark es) ns

-- how many events may still come that cost nothing: a scope's join and the beginning and end of its
-- close, a task's start or reject and its end
unfoldable pub owed : History → ℕ
owed h = (missing join_mark (scope_numbers h) h.events + missing begin_mark (scope_numbers h) h.events + missing end_mark (scope_numbers h) h.events)
    + (missing take_mark (task_numbers h) h.events + missing finish_mark (task_numbers h) h.events)
