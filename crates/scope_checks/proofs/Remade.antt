-- Which check fails is one, whatever is made of it.
use Rattle.std.proofs.Common.{[], ℕ, ◌&&◌, ◌==◌, ◌∙◌, ◌∷◌, ◌≡◌, Bool, Err, List, Ok, ap, cond, false, is_some, length, nat_le, nat_lt, not, refl, sym, true}
use Rattle.scope_checks.specs.{BeginClose, Bind, Cancel, Checked, EndClose, Event, FORK_LOAD, Failed, Finish, Fork, History, Join, LEVEL_LIMIT, Limits, Move, OPEN_LOAD, Open, Reject, STEP_LOAD, Start, Tick, Tried, Unbind}
use Rattle.scope_checks.specs.{actor_check, bound_as_opened, check_of, checks, closed, closing, forking, holds_last, in_closing, innermost, is_cancelled, is_innermost, is_running, is_waiting, joined, known_actor, known_scope}
use Rattle.scope_checks.specs.{known_task, load_fits, moment, next_level, not_closing, not_joined, opening, over_load, over_scopes, over_tasks, owned, owns, owns_task, reading_row, ready, refusal_of, refuse_if, remade, retire_row}
use Rattle.scope_checks.specs.{row_check, rows, scope_check, settled, stack, stage, task_check, task_joined, then_check, until_row}
use Rattle.scope_rules.specs.declared.types.checks.Failed.TheVariants as failed

-- what passes if one thing is made of a failure passes if another is
pub passes_too : {F G : Type 0} (g : F → G) (x : Tried F) → remade g x ≡ Ok tt → x ≡ Ok tt
passes_too g (Ok tt) passes = refl
passes_too g (Err f) passes = absurd cc

module _ {F : Type 0} (made : Failed → F) where
  if_remade : (b : Bool) (f : Failed) → refuse_if b (made f) ≡ remade made (refuse_if b f)
  if_remade true f = refl
  if_remade false f = refl

  then_remade : (x y : Tried Failed) → then_check (remade made x) (remade made y) ≡ remade made (then_check x y)
  unfolding then_check
  then_remade (Ok done) y = refl
  then_remade (Err f) y = refl

  -- the rows, check by check
  none : checks [] ≡ remade made (checks [])
  unfolding checks
  none = refl

  more : (c : Tried F) (x : Tried Failed) (cs : List (Tried F)) (xs : List (Tried Failed)) → c ≡ remade made x → checks cs ≡ remade made (checks xs) → checks (c ∷ cs) ≡ remade made (checks (x ∷ xs))
  unfolding checks
  more c x cs xs first rest = ap (λ d. then_check d (checks cs)) first ∙ (ap (then_check (remade made x)) rest ∙ then_remade x (checks xs))

  either : (b c : Bool) (f g : Failed) → cond b (Err (made f)) (refuse_if c (made g)) ≡ remade made (cond b (Err f) (refuse_if c g))
  either true c f g = refl
  either false c f g = if_remade c g

  pub scope_remade : (h : History) (s : ℕ) → known_scope made h s ≡ remade made (known_scope (λ f. f) h s)
  unfolding known_scope
  scope_remade h s = either (nat_lt 0 s && nat_le s h.base.scopes) (not (is_some (opening h s))) (failed.ScopeRetired s) (failed.ScopeUnknown s)

  pub task_remade : (h : History) (k : ℕ) → known_task made h k ≡ remade made (known_task (λ f. f) h k)
  unfolding known_task
  task_remade h k = either (nat_lt 0 k && nat_le k h.base.tasks) (not (is_some (forking h k))) (failed.TaskRetired k) (failed.TaskUnknown k)

  unless_remade : (b : Bool) (x : Tried F) (y : Tried Failed) → x ≡ remade made y → cond b (Ok tt) x ≡ remade made (cond b (Ok tt) y)
  unless_remade true x y so = refl
  unless_remade false x y so = so

  pub actor_remade : (h : History) (a : ℕ) → known_actor made h a ≡ remade made (known_actor (λ f. f) h a)
  unfolding known_actor
  actor_remade h a = unless_remade (a == 0) _ _ (more _ _ _ _ (task_remade h a) (more _ _ _ _ (if_remade (not (is_running (stage h a))) (failed.NotRunning a)) none))

  owned_remade : (h : History) (a s : ℕ) → owned made h a s ≡ remade made (owned (λ f. f) h a s)
  owned_remade h a s = if_remade (not (owns h a s)) (failed.NotOwner a s)

  closing_remade : (h : History) (s : ℕ) → not_closing made h s ≡ remade made (not_closing (λ f. f) h s)
  closing_remade h s = if_remade (closing h s) (failed.Closing s)

  joined_remade : (h : History) (s : ℕ) → not_joined made h s ≡ remade made (not_joined (λ f. f) h s)
  joined_remade h s = if_remade (joined h s) (failed.Joined s)

  load_remade : (L : Limits) (h : History) (units : ℕ) → load_fits made L h units ≡ remade made (load_fits (λ f. f) L h units)
  load_remade L h units = if_remade (over_load L h units) (failed.Load units)

  pub row_remade : (L : Limits) (h : History) (e : Event) → row_check made L h e ≡ remade made (row_check (λ f. f) L h e)
  unfolding row_check
  row_remade L h (Open actor policy options) = more _ _ _ _ (actor_remade h actor) (more _ _ _ _ (if_remade (in_closing h actor) _) (more _ _ _ _ (if_remade (nat_lt LEVEL_LIMIT (next_level h actor)) _) (more _ _ _ _ (if_remade (over_scopes L h) _) (more _ _ _ _ (load_remade L h OPEN_LOAD) none))))
  row_remade L h (Fork actor scope label) = more _ _ _ _ (actor_remade h actor) (more _ _ _ _ (scope_remade h scope) (more _ _ _ _ (owned_remade h actor scope) (more _ _ _ _ (closing_remade h scope) (more _ _ _ _ (joined_remade h scope) (more _ _ _ _ (if_remade (not (bound_as_opened h actor scope)) _) (more _ _ _ _ (if_remade (over_tasks L h) _) (more _ _ _ _ (load_remade L h FORK_LOAD) none)))))))
  row_remade L h (Reject task) = more _ _ _ _ (task_remade h task) (more _ _ _ _ (if_remade (not (is_waiting (stage h task))) _) none)
  row_remade L h (Start task) = more _ _ _ _ (task_remade h task) (more _ _ _ _ (if_remade (not (is_waiting (stage h task))) _) none)
  row_remade L h (Finish task end) = more _ _ _ _ (task_remade h task) (more _ _ _ _ (if_remade (not (is_running (stage h task))) _) (more _ _ _ _ (if_remade (is_some (innermost h task)) _) none))
  row_remade L h (Cancel scope) = more _ _ _ _ (scope_remade h scope) (more _ _ _ _ (closing_remade h scope) (more _ _ _ _ (unless_remade (is_cancelled h scope) _ _ (load_remade L h STEP_LOAD)) none))
  row_remade L h (Move scope deadline) = more _ _ _ _ (scope_remade h scope) (more _ _ _ _ (closing_remade h scope) (more _ _ _ _ (joined_remade h scope) (more _ _ _ _ (load_remade L h STEP_LOAD) none)))
  row_remade L h (Tick now) = more _ _ _ _ (if_remade (nat_lt now (moment h)) _) (more _ _ _ _ (load_remade L h STEP_LOAD) none)
  row_remade L h (Bind actor pair) = more _ _ _ _ (actor_remade h actor) (more _ _ _ _ (load_remade L h STEP_LOAD) none)
  row_remade L h (Unbind actor) = more _ _ _ _ (actor_remade h actor) (more _ _ _ _ (if_remade (length (stack h actor) == 0) _) (more _ _ _ _ (if_remade (holds_last h actor) _) (more _ _ _ _ (load_remade L h STEP_LOAD) none)))
  row_remade L h (Join actor scope) = more _ _ _ _ (actor_remade h actor) (more _ _ _ _ (scope_remade h scope) (more _ _ _ _ (owned_remade h actor scope) (more _ _ _ _ (closing_remade h scope) (more _ _ _ _ (joined_remade h scope) (more _ _ _ _ (if_remade (not (ready h scope)) _) none)))))
  row_remade L h (BeginClose actor scope) = more _ _ _ _ (actor_remade h actor) (more _ _ _ _ (scope_remade h scope) (more _ _ _ _ (owned_remade h actor scope) none))
  row_remade L h (EndClose actor scope) = more _ _ _ _ (actor_remade h actor) (more _ _ _ _ (scope_remade h scope) (more _ _ _ _ (owned_remade h actor scope) (more _ _ _ _ (if_remade (not (closing h scope)) _) (more _ _ _ _ (if_remade (closed h scope) _) (more _ _ _ _ (if_remade (not (is_innermost h actor scope)) _) (more _ _ _ _ (if_remade (not (settled h scope)) _) none))))))

  pub retire_remade : (h : History) (a : ℕ) → checks (retire_row made h a) ≡ remade made (checks (retire_row (λ f. f) h a))
  retire_remade h a = more _ _ _ _ (actor_remade h a) (more _ _ _ _ (if_remade (not (a == 0)) _) (more _ _ _ _ (if_remade (is_some (innermost h 0)) _) none))

  pub reading_remade : (h : History) (a k : ℕ) → checks (reading_row made h a k) ≡ remade made (checks (reading_row (λ f. f) h a k))
  reading_remade h a k = more _ _ _ _ (actor_remade h a) (more _ _ _ _ (task_remade h k) (more _ _ _ _ (if_remade (not (owns_task h a k)) _) (more _ _ _ _ (if_remade (not (task_joined h k)) _) none)))

  pub until_remade : (h : History) (s : ℕ) → checks (until_row made h s) ≡ remade made (checks (until_row (λ f. f) h s))
  until_remade h s = more _ _ _ _ (scope_remade h s) (more _ _ _ _ (if_remade (closed h s) _) none)

-- so what passes is not refused

module _ {F : Type 0} (made : Failed → F) where
  passed : (x : Tried F) (y : Tried Failed) (z : Checked) → x ≡ remade made y → z ≡ remade refusal_of y → x ≡ Ok tt → z ≡ Ok tt
  passed x y z one other passes = other ∙ ap (remade refusal_of) (passes_too made y (sym one ∙ passes))

  pub scope_passes : (h : History) (s : ℕ) → known_scope made h s ≡ Ok tt → scope_check h s ≡ Ok tt
  scope_passes h s passes = passed _ _ _ (scope_remade made h s) (scope_remade refusal_of h s) passes

  pub task_passes : (h : History) (k : ℕ) → known_task made h k ≡ Ok tt → task_check h k ≡ Ok tt
  task_passes h k passes = passed _ _ _ (task_remade made h k) (task_remade refusal_of h k) passes

  pub actor_passes : (h : History) (a : ℕ) → known_actor made h a ≡ Ok tt → actor_check h a ≡ Ok tt
  actor_passes h a passes = passed _ _ _ (actor_remade made h a) (actor_remade refusal_of h a) passes

  pub row_passes : (L : Limits) (h : History) (e : Event) → row_check made L h e ≡ Ok tt → check_of L h e ≡ Ok tt
  row_passes L h e passes = passed _ _ _ (row_remade made L h e) (row_remade refusal_of L h e) passes

  pub reading_passes : (h : History) (a k : ℕ) → checks (reading_row made h a k) ≡ Ok tt → checks (reading_row refusal_of h a k) ≡ Ok tt
  reading_passes h a k passes = passed _ _ _ (reading_remade made h a k) (reading_remade refusal_of h a k) passes
