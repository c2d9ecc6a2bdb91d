-- By which scope an actor is cancelled: what lies around whatever it opens next.
use Rattle.std.specs.Prelude.{ℕ, ◌==◌, Ok, Option, Result, if◌then◌else◌}
use Rattle.balkreyn_c.specs.Words.{Cause, Checked, History, Refusal, answering, cause, option_and_then, surrounding, task_check}

-- main is always there, and a task if its number was given since the base
abbrev pub around_check : History → ℕ → Checked
around_check h actor = if actor == 0 then Ok tt else task_check h actor

abbrev pub around_reply : History → ℕ → Result (Option ℕ) Refusal
around_reply h actor = answering (around_check h actor) (surrounding h actor)

-- why that scope is cancelled, if there is one and it is
abbrev pub mark_reply : History → ℕ → Result (Option Cause) Refusal
mark_reply h actor = answering (around_check h actor) (option_and_then (cause h) (surrounding h actor))
