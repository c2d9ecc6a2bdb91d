-- What is read of tasks and of bindings is read of them without dues.
use Rattle.std.proofs.Common.{ℕ, ◌&&◌, ◌==◌, ◌∙◌, ◌≡◌, List, ap, false, length, nat_le, not, refl}
use Rattle.scope_log.specs.{Binding, Event, Fork, Forking, History, Never, Opening, Words.closed, Words.stage, before, bound_as_at, bound_as_opened, finished, finishes, first_stack, forking, holds_last, is_unsettled, list_any}
use Rattle.scope_log.specs.{opened_above, opening, option_map_or, ready, rejected, rejects, scope_numbers, settled, stack, stacked, stage_of, started, starts, without_due, without_dues}
use Rattle.scope_log.proofs.Words.{fun_ext}
use Rattle.scope_log.proofs.{Cancels.same_cancelled, Cancels.same_cancelled_before, Cancels.same_is_task_of, Events.forking_without, Events.same_forked, Events.same_forking, Events.same_opened, Events.same_opening}
use Rattle.scope_log.proofs.{Events.without_before, Mapped.any_mapped, Mapped.fold_mapped, Mapped.map_or_mapped, Scopes.same_closed}

-- ---- stages

rejects_same : (k : ℕ) (e : Event) → rejects k (without_due e) ≡ rejects k e
rejects_same k (Fork actor scope label) = refl
rejects_same k _ = refl

same_rejected : (h : History) (k : ℕ) → rejected (without_dues h) k ≡ rejected h k
unfolding rejected
same_rejected h k = any_mapped without_due (rejects k) (rejects_same k) h.events

starts_same : (k : ℕ) (e : Event) → starts k (without_due e) ≡ starts k e
starts_same k (Fork actor scope label) = refl
starts_same k _ = refl

same_started : (h : History) (k : ℕ) → started (without_dues h) k ≡ started h k
unfolding started
same_started h k = any_mapped without_due (starts k) (starts_same k) h.events

finishes_same : (k : ℕ) (e : Event) → finishes k (without_due e) ≡ finishes k e
finishes_same k (Fork actor scope label) = refl
finishes_same k _ = refl

same_finished : (h : History) (k : ℕ) → finished (without_dues h) k ≡ finished h k
unfolding finished
same_finished h k = any_mapped without_due (finishes k) (finishes_same k) h.events

same_stage_of : (h : History) (k : ℕ) (f : Forking) → stage_of (without_dues h) k (forking_without f) ≡ stage_of h k f
unfolding stage_of
same_stage_of h k f = rw (same_cancelled_before h f.scope f.place, same_rejected h k, same_finished h k, same_started h k) refl

pub same_stage : (h : History) (k : ℕ) → stage (without_dues h) k ≡ stage h k
unfolding stage
same_stage h k = rw (same_forking h k) (map_or_mapped forking_without (stage_of (without_dues h) k) (stage_of h k) (same_stage_of h k) Never (forking h k))

same_unsettled : (h : History) (s k : ℕ) → is_unsettled (without_dues h) s k ≡ is_unsettled h s k
same_unsettled h s k = rw (same_is_task_of h s k, same_stage h k) refl

pub same_settled : (h : History) (s : ℕ) → settled (without_dues h) s ≡ settled h s
unfolding settled
same_settled h s = rw (same_forked h, fun_ext (same_unsettled h s)) refl

pub same_ready : (h : History) (s : ℕ) → ready (without_dues h) s ≡ ready h s
unfolding ready
same_ready h s = rw (same_cancelled h s, same_settled h s) refl

-- ---- bindings

stacked_same : (a : ℕ) (bs : List Binding) (e : Event) → stacked a bs (without_due e) ≡ stacked a bs e
stacked_same a bs (Fork actor scope label) = refl
stacked_same a bs _ = refl

pub same_stack : (h : History) (a : ℕ) → stack (without_dues h) a ≡ stack h a
unfolding stack
same_stack h a = fold_mapped without_due (stacked a) (stacked_same a) (first_stack h a) h.events

stack_before : (h : History) (a i : ℕ) → stack (before (without_dues h) i) a ≡ stack (before h i) a
stack_before h a i = ap (λ (g : History). stack g a) (without_before h i) ∙ same_stack (before h i) a

bound_same : (h : History) (a : ℕ) (o : Opening) → bound_as_at (without_dues h) a o ≡ bound_as_at h a o
bound_same h a o = rw (same_stack h a, stack_before h a o.place) refl

pub same_bound_as_opened : (h : History) (a s : ℕ) → bound_as_opened (without_dues h) a s ≡ bound_as_opened h a s
unfolding bound_as_opened
same_bound_as_opened h a s = rw (same_opening h) (ap (λ f. option_map_or f (opening h s) false) (fun_ext (bound_same h a)))

above_same : (h : History) (a s : ℕ) (o : Opening) → ((o.actor == a) && not (closed (without_dues h) s) && nat_le (length (stack (without_dues h) a)) (length (stack (before (without_dues h) o.place) a))) ≡ ((o.actor == a) && not (closed h s) && nat_le (length (stack h a)) (length (stack (before h o.place) a)))
above_same h a s o = rw (same_closed h, same_stack h a, stack_before h a o.place) refl

same_opened_above : (h : History) (a s : ℕ) → opened_above (without_dues h) a s ≡ opened_above h a s
same_opened_above h a s = rw (same_opening h) (ap (λ f. option_map_or f (opening h s) false) (fun_ext (above_same h a s)))

pub same_holds_last : (h : History) (a : ℕ) → holds_last (without_dues h) a ≡ holds_last h a
unfolding holds_last
same_holds_last h a = rw (same_opened h) (ap (λ p. list_any p (scope_numbers h)) (fun_ext (same_opened_above h a)))
