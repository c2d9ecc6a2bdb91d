-- How the scopes that are not closed lie in one another, which tasks are a scope's, and what there is to
-- say of a scope and of a task.
use Rattle.std.specs.Prelude.{ℕ, ◌+◌, List, None, Option, Result, if◌then◌else◌, nat_lt, ok_or, option_map, slice_get}
use Rattle.scope_rules.specs.Words.{Closing, Label, NoScope, NoTask, Opening, Refusal, ScopeInfo, ScopeStage, filter, option_and_then}
use Rattle.scope_rules.specs.{Cancels.cause, Cancels.deadline, Checks.scope_check, Checks.task_check, Completions.is_task_of, History.History, History.forking, History.opened_count, History.opening, History.task_numbers}
use Rattle.scope_rules.specs.{Scopes.closed, Scopes.closing, Scopes.joined, Scopes.unclosed_of, Search.earliest, Table.answering, Table.checked_then, declared.types.infos.ScopeStage.TheVariants.Closed}
use Rattle.scope_rules.specs.{declared.types.infos.ScopeStage.TheVariants.Open}

-- ---- what lies in what

-- the scope that was opened after n others since the base, if it came after scope s and the actor opened
-- it and has not closed it
abbrev pub unclosed_after : History → ℕ → ℕ → ℕ → Option ℕ
unclosed_after h actor s n = if nat_lt s (h.base.scopes + 1 + n) then unclosed_of h actor n else None

-- the first scope after scope s that the actor opened and has not closed
unfoldable pub next_unclosed : History → ℕ → ℕ → Option ℕ
next_unclosed h actor s = earliest (unclosed_after h actor s) (opened_count h)

-- the actor's outermost scope: the first that it opened and has not closed
unfoldable pub outermost : History → ℕ → Option ℕ
outermost h actor = earliest (unclosed_of h actor) (opened_count h)

-- the scope inside scope s: the next that its owner opened and has not closed
unfoldable pub inner : History → ℕ → Option ℕ
inner h s = option_and_then (λ o. next_unclosed h o.actor s) (opening h s)

-- what `inner` answers
abbrev pub inner_reply : History → ℕ → Result (Option ℕ) Refusal
inner_reply h s = answering (scope_check h s) (inner h s)

-- what `task_inner` answers: the outermost scope of the task
abbrev pub task_inner_reply : History → ℕ → Result (Option ℕ) Refusal
task_inner_reply h k = answering (task_check h k) (outermost h k)

-- ---- the tasks of a scope

-- the numbers of the tasks that were forked in scope s, in fork order
unfoldable pub tasks_of : History → ℕ → List ℕ
tasks_of h s = filter (is_task_of h s) (task_numbers h)

-- what `task_at` answers: the i-th task of scope s, from 0, in fork order
abbrev pub task_at_reply : History → ℕ → ℕ → Result (Option ℕ) Refusal
task_at_reply h s i = answering (scope_check h s) (slice_get (tasks_of h s) i)

-- the label of task k
unfoldable pub label : History → ℕ → Option Label
label h k = option_map (λ f. f.label) (forking h k)

-- what `label` answers
abbrev pub label_reply : History → ℕ → Result Label Refusal
label_reply h k = checked_then (task_check h k) (ok_or (label h k) NoTask)

-- ---- what there is to say of a scope

-- how far scope s has come
unfoldable pub scope_stage : History → ℕ → ScopeStage
scope_stage h s = if closed h s then Closed else (if closing h s then Closing else Open)

-- what there is to say of scope s, which was opened so
abbrev pub info_of : History → ℕ → Opening → ScopeInfo
info_of h s o = record {
  scope = s;
  owner = o.actor;
  policy = o.policy;
  deadline = deadline h s;
  expiry = o.options.expiry;
  shield = o.options.shield;
  joined = joined h s;
  stage = scope_stage h s;
  cause = cause h s;
}

-- what there is to say of scope s
unfoldable pub info : History → ℕ → Option ScopeInfo
info h s = option_map (info_of h s) (opening h s)

-- what `info` answers
abbrev pub info_reply : History → ℕ → Result ScopeInfo Refusal
info_reply h s = checked_then (scope_check h s) (ok_or (info h s) NoScope)
