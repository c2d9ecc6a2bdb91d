-- All that is asked behind a retirement is answered alike.
use Rattle.scope_log.specs.{Event, NamesNone, Retirable, RetiringAgain, RetiringChangesNoAnswer, RetiringLeavesTheBase, ScopeAlike, TaskAlike, Words.moment, Words.scopes, Words.tasks, base_of, retired, stack, unretired}
use Rattle.scope_log.proofs.Words.{ℕ, ◌∙◌, List, ap, refl}
use Rattle.scope_log.proofs.{Answered.same_outcome, Bound.same_bindings, Cancelled.same_cancelled, Cancelled.same_cause, Cancelled.same_effective, Checked.same_actor_check, Checked.same_already, Checked.same_check}
use Rattle.scope_log.proofs.{Checked.same_reading_check, Checked.same_scope_check, Checked.same_task_check, Checked.same_until_check, Closed.same_verdict, Closing.same_closing, Displayed.same_info, Displayed.same_inner}
use Rattle.scope_log.proofs.{Displayed.same_label, Displayed.same_outermost, Nested.same_innermost, Numbered.same_moment, Numbered.same_scopes, Numbered.same_tasks, Past.IsScope, Past.IsTask, Past.zero_stays, Staged.same_counts}
use Rattle.scope_log.proofs.{Staged.same_stage, Staged.same_state, Staged.same_tasks_of, Standing.same_closed, Standing.same_joined, Standing.same_stack}

scope_alike : (r : Retirable) (es : List Event) → NamesNone r es → (s : ℕ) → IsScope r s → ScopeAlike (unretired r es) (retired r es) s
scope_alike r es none s new = record {
  checked = same_scope_check r es s new;
  until_checked = same_until_check r es none s new;
  joined = same_joined r es s new;
  closing = same_closing r es none s new;
  closed = same_closed r es s new;
  cancelled = same_cancelled r es none s new;
  cause = same_cause r es none s new;
  until = same_effective r es none s new;
  counts = same_counts r es none s new;
  outcome = same_outcome r es none s new;
  verdict = same_verdict r es none s new;
  inner = same_inner r es s new;
  tasks = same_tasks_of r es none s new;
  info = same_info r es none s new;
}

task_alike : (r : Retirable) (es : List Event) → NamesNone r es → (k : ℕ) → IsTask r k → TaskAlike (unretired r es) (retired r es) k
task_alike r es none k new = record {
  checked = same_task_check r es k new;
  acts = same_actor_check r es none k new;
  stage = same_stage r es none k new;
  state = same_state r es none k new;
  label = same_label r es k new;
  innermost = same_innermost r es k;
  outermost = same_outermost r es k;
  bindings = same_bindings r es k none new;
}

pub answers_alike : RetiringChangesNoAnswer
answers_alike r es none = record {
  scopes = same_scopes r es;
  tasks = same_tasks r es;
  moment = same_moment r es;
  events = λ e new. record { refused = same_check r es none r.limits e new; already = same_already r es none e new };
  of_scopes = scope_alike r es none;
  of_tasks = task_alike r es none;
  read = λ a k actor new. same_reading_check r es none a k actor new;
}

pub retired_again : RetiringAgain
unfolding base_of
retired_again r es none =
    ap (λ m. record { moment = m; scopes = scopes (unretired r es); tasks = tasks (unretired r es); binds = stack (unretired r es) 0 }) (same_moment r es)
    ∙ (ap (λ n. record { moment = moment (retired r es); scopes = n; tasks = tasks (unretired r es); binds = stack (unretired r es) 0 }) (same_scopes r es)
    ∙ (ap (λ n. record { moment = moment (retired r es); scopes = scopes (retired r es); tasks = n; binds = stack (unretired r es) 0 }) (same_tasks r es)
    ∙ ap (λ bs. record { moment = moment (retired r es); scopes = scopes (retired r es); tasks = tasks (retired r es); binds = bs }) (same_stack r es 0 (zero_stays (tasks r.past)))))

pub leaves_the_base : RetiringLeavesTheBase
unfolding base_of
leaves_the_base r = refl
