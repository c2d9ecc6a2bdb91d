-- The checks of an event, and whether all is so already, are the same without dues.
use Rattle.std.proofs.Common.{ℕ, ◌∙◌, ◌≡◌, None, Option, Some, is_some, option_map, refl, slice_get, subst, sym}
use Rattle.scope_log.specs.{Accepts, BeginClose, Bind, Cancel, EndClose, Event, Finish, Fork, Forking, History, Join, LabelsDecideNothing, Legal, LegalWithoutDues, Limits, Move, Open, Reject, Start, Tick, Unbind, actor_check}
use Rattle.scope_log.specs.{before, check_of, forking, in_closing, is_already, is_innermost, known_actor, known_scope, known_task, owns, row_check, scope_check, task_check, without_due, without_dues}
use Rattle.scope_log.proofs.{Cancels.same_cancelled, Events.forking_without, Events.same_forked, Events.same_forking, Events.same_load, Events.same_moment, Events.same_opened, Events.same_opening, Events.without_at}
use Rattle.scope_log.proofs.{Events.without_before, Scopes.same_closed, Scopes.same_closing, Scopes.same_innermost, Scopes.same_joined, Scopes.same_next_level, Tasks.same_bound_as_opened, Tasks.same_holds_last, Tasks.same_ready}
use Rattle.scope_log.proofs.{Tasks.same_settled, Tasks.same_stack, Tasks.same_stage}

same_scope_check : (h : History) (s : ℕ) → scope_check (without_dues h) s ≡ scope_check h s
unfolding known_scope
same_scope_check h s = rw (same_opening h) refl

there_same : (o : Option Forking) → is_some (option_map forking_without o) ≡ is_some o
there_same None = refl
there_same (Some f) = refl

same_task_check : (h : History) (k : ℕ) → task_check (without_dues h) k ≡ task_check h k
unfolding known_task
same_task_check h k = rw (same_forking h k, there_same (forking h k)) refl

same_actor_check : (h : History) (a : ℕ) → actor_check (without_dues h) a ≡ actor_check h a
unfolding known_actor
same_actor_check h a = rw (same_task_check h a, same_stage h a) refl

same_owns : (h : History) (a s : ℕ) → owns (without_dues h) a s ≡ owns h a s
unfolding owns
same_owns h a s = rw (same_opening h) refl

same_in_closing : (h : History) (a : ℕ) → in_closing (without_dues h) a ≡ in_closing h a
unfolding in_closing
same_in_closing h a = rw (same_innermost h a, same_closing h) refl

same_is_innermost : (h : History) (a s : ℕ) → is_innermost (without_dues h) a s ≡ is_innermost h a s
unfolding is_innermost
same_is_innermost h a s = rw (same_innermost h a) refl

same_check : (L : Limits) (h : History) (e : Event) → check_of L (without_dues h) (without_due e) ≡ check_of L h e
unfolding row_check
same_check L h (Open actor policy options) = rw (same_actor_check h actor, same_in_closing h actor, same_next_level h actor, same_opened h, same_load h) refl
same_check L h (Fork actor scope label) = rw (same_actor_check h actor, same_scope_check h scope, same_owns h actor scope, same_closing h, same_joined h scope, same_bound_as_opened h actor scope, same_forked h, same_load h) refl
same_check L h (Reject task) = rw (same_task_check h task, same_stage h task) refl
same_check L h (Start task) = rw (same_task_check h task, same_stage h task) refl
same_check L h (Finish task end) = rw (same_task_check h task, same_stage h task, same_innermost h task) refl
same_check L h (Cancel scope) = rw (same_scope_check h scope, same_closing h, same_cancelled h scope, same_load h) refl
same_check L h (Move scope deadline) = rw (same_scope_check h scope, same_closing h, same_joined h scope, same_load h) refl
same_check L h (Tick now) = rw (same_moment h, same_load h) refl
same_check L h (Bind actor pair) = rw (same_actor_check h actor, same_load h) refl
same_check L h (Unbind actor) = rw (same_actor_check h actor, same_stack h actor, same_holds_last h actor, same_load h) refl
same_check L h (Join actor scope) = rw (same_actor_check h actor, same_scope_check h scope, same_owns h actor scope, same_closing h, same_joined h scope, same_ready h scope) refl
same_check L h (BeginClose actor scope) = rw (same_actor_check h actor, same_scope_check h scope, same_owns h actor scope) refl
same_check L h (EndClose actor scope) = rw (same_actor_check h actor, same_scope_check h scope, same_owns h actor scope, same_closing h, same_closed h, same_is_innermost h actor scope, same_settled h scope) refl

same_already : (h : History) (e : Event) → is_already (without_dues h) (without_due e) ≡ is_already h e
same_already h (Cancel scope) = same_cancelled h scope
same_already h (BeginClose actor scope) = rw (same_closing h) refl
same_already h (Fork actor scope label) = refl
same_already h _ = refl

pub labels_decide_nothing : LabelsDecideNothing
labels_decide_nothing L h e = record { checked = same_check L h e; already = same_already h e }

pub accepts_without : (L : Limits) (h : History) (e : Event) → Accepts L h e → Accepts L (without_dues h) (without_due e)
accepts_without L h e is = record { passed = same_check L h e ∙ is.passed; recorded = same_already h e ∙ is.recorded }

was_there : (o : Option Event) (d : Event) → option_map without_due o ≡ Some d → (e : Event) × (o ≡ Some e) × (without_due e ≡ d)
was_there None d is = absurd cc
was_there (Some e) d is = (e, refl, cc)

pub legal_without : LegalWithoutDues
unfolding Legal
legal_without L h legal =
    λ i d at.
    let it = was_there (slice_get h.events i) d (sym (without_at h i) ∙ at) in
    let there = accepts_without L (before h i) it.0 (legal i it.0 it.1) in
    subst (λ (e : Event). Accepts L (before (without_dues h) i) e) it.2 (subst (λ (g : History). Accepts L g (without_due it.0)) (sym (without_before h i)) there)
