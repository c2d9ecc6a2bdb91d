-- What readings of a legal history may go by, once the checks that come before them have passed: numbers
-- that were given, and heights of stacks in place of their pairs.
use Rattle.std.proofs.Common.{ℕ, ◌==◌, ◌∙◌, ◌≡◌, ◌⊎◌, None, Option, Some, ap, inl, inr, length, refl, subst, sym, true}
use Rattle.scope_checks.specs.{Forking, History, Legal, Limits, Never, Opening, Passes.Passes, actor_check, bound_as_opened, forking, is_running, opening, option_map_or, owner_check, refuse_closing, stack, stage, stage_of}
use Rattle.scope_checks.proofs.Words.{IsActor, IsForked, actor_passed, bound_by_height, live_is_unclosed, not_refused, owner_passed, some_same, stack_then}

forked_by : (h : History) (k : ℕ) (f : Option Forking) → forking h k ≡ f → is_running (option_map_or (stage_of h k) f Never) ≡ true → IsForked h k
forked_by h k None is runs = absurd cc
forked_by h k (Some f) is runs = record { forked = f; is = is }

-- a task that runs was forked
pub running_forked : (h : History) (k : ℕ) → is_running (stage h k) ≡ true → IsForked h k
unfolding stage
running_forked h k runs = forked_by h k (forking h k) refl runs

forked_actor : (h : History) (a : ℕ) → IsActor h a → (a ≡ 0) ⊎ IsForked h a
forked_actor h a (inl main) = inl main
forked_actor h a (inr runs) = inr (running_forked h a runs)

-- an actor whose check passed is main, or a task that was forked
pub passed_actor : (h : History) (a : ℕ) → Passes (actor_check h a) → (a ≡ 0) ⊎ IsForked h a
passed_actor h a passed = forked_actor h a (actor_passed h a passed)

-- an owner whose check passed is the actor of the scope's opening
pub passed_owner : (h : History) (a s : ℕ) (o : Opening) → Passes (owner_check h a s) → opening h s ≡ Some o → o.actor ≡ a
passed_owner h a s o passed is =
    let owner = owner_passed h a s passed in
    ap (λ (x : Opening). x.actor) (some_same o owner.opened (sym is ∙ owner.is)) ∙ owner.by

-- in a scope that is the actor's and not closing, the bindings are those of the opening if the stack is
-- as high as then
pub passed_bound : (L : Limits) (h : History) (a s : ℕ) (o : Opening) → Legal L h → Passes (owner_check h a s) → Passes (refuse_closing h s) → opening h s ≡ Some o
    → bound_as_opened h a s ≡ (length (stack h a) == length (stack_then h o))
passed_bound L h a s o legal owned stands is =
    let unclosed = live_is_unclosed L h s legal (not_refused _ _ stands) in
    let P : ℕ → Type 0 = λ x. bound_as_opened h x s ≡ (length (stack h x) == length (stack_then h o)) in
    subst P (passed_owner h a s o owned is) (bound_by_height L h s o legal is unclosed)
