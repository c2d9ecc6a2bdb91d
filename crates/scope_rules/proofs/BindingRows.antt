-- What a passed row of checks says of actors, forks and bindings. All that these laws unpack of a row
-- is here.
use Rattle.std.proofs.Common.{[], ℕ, ◌<◌, ◌==◌, ◌∙◌, ◌∷◌, ◌≡◌, ◌⊎◌, Bool, None, Ok, Option, Some, ap, arith, cond, false, inl, inr, is_some, length, not, refl, sym, true}
use Rattle.scope_rules.specs.{Accepts, Fork, Forking, History.History, Limits, Opening, Unbind, WrongStage, actor_check, bound_as_opened, checks, declared.types.events.Event.TheVariants.Open, forking, holds_last, is_running}
use Rattle.scope_rules.specs.{known_actor, known_scope, known_task, opening, option_map_or, owns, refuse_if, row_check, stack, stage, task_check}
use Rattle.scope_rules.proofs.Words.{eqb-false, eqb-true}
use Rattle.scope_rules.proofs.{Accepted.checks_at, Accepted.not_not, Accepted.not_refused, Nesting.IsOpened, Nesting.opened_some, Owing.if_refused}

-- a task with this number was forked
pub record IsForked (h : History) (k : ℕ) : Type 0 where
  pub forked : Forking
  pub is : forking h k ≡ Some forked

forked_some : (h : History) (k : ℕ) (o : Option Forking) → forking h k ≡ o → is_some o ≡ true → IsForked h k
forked_some h k None is found = absurd cc
forked_some h k (Some f) is found = record { forked = f; is = is }

acts_by : (h : History) (a : ℕ) (b : Bool) → (a == 0) ≡ b → cond b (Ok tt) (checks (task_check h a ∷ refuse_if (not (is_running (stage h a))) WrongStage ∷ [])) ≡ Ok tt → (a ≡ 0) ⊎ IsForked h a
unfolding known_task
acts_by h a true is passed = inl (eqb-true a 0 is)
acts_by h a false is passed = inr (forked_some h a (forking h a) refl (not_not _ (not_refused _ _ (if_refused _ _ _ (checks_at _ 0 _ passed refl)))))

-- who may act is main, or a task that was forked
acts : (h : History) (a : ℕ) → actor_check h a ≡ Ok tt → (a ≡ 0) ⊎ IsForked h a
unfolding known_actor
acts h a passed = acts_by h a (a == 0) refl passed

-- who opens a scope is main, or a task that was forked
pub opener_acts : (L : Limits) (h : History) (o : Opening) → Accepts L h (Open o.actor o.policy o.options) → (o.actor ≡ 0) ⊎ IsForked h o.actor
unfolding row_check
opener_acts L h o ok = acts h o.actor (checks_at _ 0 _ ok.passed refl)

-- who forks a task is main, or a task that was forked
pub forker_acts : (L : Limits) (h : History) (f : Forking) → Accepts L h (Fork f.actor f.scope f.label) → (f.actor ≡ 0) ⊎ IsForked h f.actor
unfolding row_check
forker_acts L h f ok = acts h f.actor (checks_at _ 0 _ ok.passed refl)

-- the scope of a fork was opened
pub fork_opened : (L : Limits) (h : History) (f : Forking) → Accepts L h (Fork f.actor f.scope f.label) → IsOpened h f.scope
unfolding row_check known_scope
fork_opened L h f ok = opened_some h f.scope (opening h f.scope) refl (not_not _ (not_refused _ _ (if_refused _ _ _ (checks_at _ 1 _ ok.passed refl))))

-- who forks a task opened its scope
pub fork_owned : (L : Limits) (h : History) (f : Forking) (o : Opening) → Accepts L h (Fork f.actor f.scope f.label) → opening h f.scope ≡ Some o → o.actor ≡ f.actor
unfolding row_check owns
fork_owned L h f o ok is =
    let owner : owns h f.actor f.scope ≡ true = not_not _ (not_refused _ _ (checks_at _ 2 _ ok.passed refl)) in
    eqb-true o.actor f.actor (sym (ap (λ x. option_map_or (λ (y : Opening). y.actor == f.actor) x false) is) ∙ owner)

-- at a fork the bindings are those of the scope's opening
pub fork_bound : (L : Limits) (h : History) (f : Forking) → Accepts L h (Fork f.actor f.scope f.label) → bound_as_opened h f.actor f.scope ≡ true
unfolding row_check
fork_bound L h f ok = not_not _ (not_refused _ _ (checks_at _ 5 _ ok.passed refl))

-- an unbind takes a pair that is there, and that no scope holds
pub unbind_free : (L : Limits) (h : History) (a : ℕ) → Accepts L h (Unbind a) → (0 < length (stack h a)) × (holds_last h a ≡ false)
unfolding row_check
unbind_free L h a ok =
    let some : length (stack h a) ≡ 0 → ⊥ = eqb-false (length (stack h a)) 0 (not_refused _ _ (checks_at _ 1 _ ok.passed refl)) in
    (omega (arith, some), not_refused _ _ (checks_at _ 2 _ ok.passed refl))
