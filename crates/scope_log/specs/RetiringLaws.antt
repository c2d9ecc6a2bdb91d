-- What a retirement leaves as it was: every answer to what names no number that was discarded.
use Rattle.std.specs.Prelude.{ℕ, ◌≡◌, ◌⊎◌, Err, List, false}
use Rattle.scope_log.specs.Words.{Checked, Event, History, Limits, TooMany, actor_check, base_of, bindings, cause, check_of, closed, closing, counts, effective, info, inner, innermost, is_already, is_cancelled, joined, label}
use Rattle.scope_log.specs.Words.{moment, outcome, outermost, reading_check, scope_check, scopes, stage, state, task_check, tasks, tasks_of, until_check, verdict}
use Rattle.scope_log.specs.Folding.{NamesNone, Retirable, is_let_go, left, names_let_go, retired, unretired}

-- the two checks are one, but where the first refuses too many: a base takes less of the limits
abbrev pub RefusesAlike : Checked → Checked → Type 0
RefusesAlike before after = (before ≡ after) ⊎ (before ≡ Err TooMany)

-- the event is answered alike on both histories
pub record EventAlike (L : Limits) (h g : History) (e : Event) : Type 0 where
  pub refused : RefusesAlike (check_of L h e) (check_of L g e)
  pub already : is_already h e ≡ is_already g e

-- what is asked of the scope is answered alike
pub record ScopeAlike (h g : History) (s : ℕ) : Type 0 where
  pub checked : scope_check h s ≡ scope_check g s
  pub until_checked : until_check h s ≡ until_check g s
  pub joined : joined h s ≡ joined g s
  pub closing : closing h s ≡ closing g s
  pub closed : closed h s ≡ closed g s
  pub cancelled : is_cancelled h s ≡ is_cancelled g s
  pub cause : cause h s ≡ cause g s
  pub until : effective h s ≡ effective g s
  pub counts : counts h s ≡ counts g s
  pub outcome : outcome h s ≡ outcome g s
  pub verdict : verdict h s ≡ verdict g s
  pub inner : inner h s ≡ inner g s
  pub tasks : tasks_of h s ≡ tasks_of g s
  pub info : info h s ≡ info g s

-- what is asked of the task, or of main, is answered alike
pub record TaskAlike (h g : History) (k : ℕ) : Type 0 where
  pub checked : task_check h k ≡ task_check g k
  pub acts : actor_check h k ≡ actor_check g k
  pub stage : stage h k ≡ stage g k
  pub state : state h k ≡ state g k
  pub label : label h k ≡ label g k
  pub innermost : innermost h k ≡ innermost g k
  pub outermost : outermost h k ≡ outermost g k
  pub bindings : bindings h k ≡ bindings g k

-- all is answered alike that names no number which the second history dropped
pub record AnswersAlike (L : Limits) (h g : History) : Type 0 where
  pub scopes : scopes h ≡ scopes g
  pub tasks : tasks h ≡ tasks g
  pub moment : moment h ≡ moment g
  pub events : (e : Event) → names_let_go g.base e ≡ false → EventAlike L h g e
  pub of_scopes : (s : ℕ) → is_let_go g.base.scopes s ≡ false → ScopeAlike h g s
  pub of_tasks : (k : ℕ) → is_let_go g.base.tasks k ≡ false → TaskAlike h g k
  pub read : (a k : ℕ) → is_let_go g.base.tasks a ≡ false → is_let_go g.base.tasks k ≡ false → reading_check h a k ≡ reading_check g a k

-- whatever came behind a retirement, all is answered as if there had been none
abbrev pub RetiringChangesNoAnswer : Type 0
RetiringChangesNoAnswer = (r : Retirable) (es : List Event) → NamesNone r es → AnswersAlike r.limits (unretired r es) (retired r es)

-- a further retirement leaves what one retirement of all leaves
abbrev pub RetiringAgain : Type 0
RetiringAgain = (r : Retirable) (es : List Event) → NamesNone r es → base_of (unretired r es) ≡ base_of (retired r es)

-- what a retirement leaves is the base of the past
abbrev pub RetiringLeavesTheBase : Type 0
RetiringLeavesTheBase = (r : Retirable) → base_of r.past ≡ left r
