-- A scope that was opened since the base, and a task that was forked since, pass the checks of their numbers.
use Rattle.std.proofs.Common.{ℕ, ◌&&◌, ◌<◌, ◌∙◌, ◌≡◌, Bool, Err, Ok, Some, ap, arith, cond, false, is_some, nat_le, nat_lt, not, refl, sym, true}
use Rattle.scope_checks.specs.{Forking, History, NoScope, NoTask, Opening, Retired, forking, known_scope, known_task, opening, refuse_if, scope_check, task_check}
use Rattle.scope_checks.proofs.Words.{forked_after, lt-leb, opened_after}

not_retired : (n b : ℕ) → b < n → (nat_lt 0 n && nat_le n b) ≡ false
not_retired n b after = ap (λ x. nat_lt 0 n && x) (lt-leb n b after) ∙ by (nat_lt 0 n)
  where
    by : (x : Bool) → (x && false) ≡ false
    by true = refl
    by false = refl

-- an opened scope passes
pub scope_passes : (h : History) (s : ℕ) (o : Opening) → opening h s ≡ Some o → scope_check h s ≡ Ok tt
unfolding known_scope
scope_passes h s o is =
    let number = opened_after h s o is in
    ap (λ b. cond b (Err Retired) (refuse_if (not (is_some (opening h s))) NoScope)) (not_retired s h.base.scopes (omega (arith, number.2)))
    ∙ ap (λ x. refuse_if (not (is_some x)) NoScope) is

-- a forked task passes
pub task_passes : (h : History) (k : ℕ) (f : Forking) → forking h k ≡ Some f → task_check h k ≡ Ok tt
unfolding known_task
task_passes h k f is =
    let number = forked_after h k f is in
    ap (λ b. cond b (Err Retired) (refuse_if (not (is_some (forking h k))) NoTask)) (not_retired k h.base.tasks (omega (arith, number.2)))
    ∙ ap (λ x. refuse_if (not (is_some x)) NoTask) is
