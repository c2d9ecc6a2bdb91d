-- What cancels scopes is read of them without dues.
use Rattle.std.proofs.Common.{ℕ, ◌+◌, ◌∙◌, ◌≡◌, None, Option, Some, ap, ap₂, cond, false, is_some, option_map, refl, slice_get}
use Rattle.scope_log.specs.{BeginClose, CauseKind, Close, Deadline, Event, Finish, Fork, Forking, History, Joiner, OwnCancel, before, cancelled_at, cancelled_before, completes, completion_of, completions, deadline, direct_kind}
use Rattle.scope_log.specs.{first_cancel, forking, is_cancelled, is_task_of, joiner_fires, kind_by, move_of, opening, option_and_then, option_or, overdue, own, own_at, own_cancel, without_due, without_dues}
use Rattle.scope_log.proofs.Words.{fun_ext}
use Rattle.scope_log.proofs.{Events.forking_without, Events.same_forking, Events.same_moment, Events.same_opening, Events.without_at, Events.without_before, Events.without_length, Mapped.filter_mapped, Mapped.last_mapped}
use Rattle.scope_log.proofs.{Mapped.map_or_mapped, Mapped.then_mapped, Scopes.same_covers, Scopes.same_joined, Scopes.same_outer}

move_same : (s : ℕ) (e : Event) → move_of s (without_due e) ≡ move_of s e
move_same s (Fork actor scope label) = refl
move_same s _ = refl

same_deadline : (h : History) (s : ℕ) → deadline (without_dues h) s ≡ deadline h s
unfolding deadline
same_deadline h s = rw (last_mapped without_due (move_of s) (move_same s) h.events, same_opening h) refl

same_overdue : (h : History) (s : ℕ) → overdue (without_dues h) s ≡ overdue h s
unfolding overdue
same_overdue h s = rw (same_joined h s, same_moment h, same_deadline h s) refl

direct_same : (h : History) (s : ℕ) (e : Event) → direct_kind (without_dues h) s (without_due e) ≡ direct_kind h s e
direct_same h s (BeginClose actor scope) = ap (λ b. cond b (Some Close) None) (same_covers h scope s)
direct_same h s (Fork actor scope label) = refl
direct_same h s _ = refl

pub same_is_task_of : (h : History) (s k : ℕ) → is_task_of (without_dues h) s k ≡ is_task_of h s k
unfolding is_task_of
same_is_task_of h s k =
    rw (same_forking h k)
    (map_or_mapped forking_without _ _ (λ (f : Forking). refl) false (forking h k))

completion_same : (h : History) (s : ℕ) (e : Event) → completion_of (without_dues h) s (without_due e) ≡ completion_of h s e
completion_same h s (Finish task end) = ap (λ b. cond b (Some (record { task = task; end = end })) None) (same_is_task_of h s task)
completion_same h s (Fork actor scope label) = refl
completion_same h s _ = refl

same_completions : (h : History) (s : ℕ) → completions (without_dues h) s ≡ completions h s
unfolding completions
same_completions h s = filter_mapped without_due (completion_of (without_dues h) s) (completion_of h s) (completion_same h s) h.events

completes_same : (h : History) (s : ℕ) (e : Event) → completes (without_dues h) s (without_due e) ≡ completes h s e
completes_same h s (Finish task end) = same_is_task_of h s task
completes_same h s (Fork actor scope label) = refl
completes_same h s _ = refl

fires_same : (h : History) (s : ℕ) (e : Event) → joiner_fires (without_dues h) s (without_due e) ≡ joiner_fires h s e
unfolding joiner_fires
fires_same h s e = rw (completes_same h s e, same_completions h s, same_opening h) refl

-- what gives scope s its own cancel at the event, between two histories
abbrev kind_between : ℕ → History → History → Event → Option CauseKind
kind_between s g k e = option_or (direct_kind g s e) (cond (joiner_fires k s e) (Some Joiner) (cond (overdue k s) (Some Deadline) None))

between_same : (s : ℕ) (g k : History) (e : Event) → kind_between s (without_dues g) (without_dues k) (without_due e) ≡ kind_between s g k e
between_same s g k e = rw (direct_same g s e, fires_same k s e, same_overdue k s) refl

kind_same : (h : History) (s i : ℕ) (e : Event) → kind_by (without_dues h) s i (without_due e) ≡ kind_by h s i e
kind_same h s i e =
    ap (λ (g : History). kind_between s g (before (without_dues h) (i + 1)) (without_due e)) (without_before h i)
    ∙ (ap (λ (k : History). kind_between s (without_dues (before h i)) k (without_due e)) (without_before h (i + 1))
    ∙ between_same s (before h i) (before h (i + 1)) e)

-- the own cancel at place i
abbrev own_by : ℕ → Option CauseKind → Option OwnCancel
own_by i o = option_map (λ kind. record { place = i; kind = kind }) o

opened_same : (h : History) (s i : ℕ) → is_some (opening (before (without_dues h) i) s) ≡ is_some (opening (before h i) s)
opened_same h s i = ap (λ (g : History). is_some (opening g s)) (without_before h i) ∙ ap (λ f. is_some (f s)) (same_opening (before h i))

kinds_same : (h : History) (s i : ℕ) → option_and_then (λ e. own_by i (kind_by (without_dues h) s i e)) (slice_get (without_dues h).events i) ≡ option_and_then (λ e. own_by i (kind_by h s i e)) (slice_get h.events i)
kinds_same h s i =
    ap (option_and_then (λ e. own_by i (kind_by (without_dues h) s i e))) (without_at h i)
    ∙ then_mapped without_due (λ e. own_by i (kind_by (without_dues h) s i e)) (λ e. own_by i (kind_by h s i e)) (λ e. ap (own_by i) (kind_same h s i e)) (slice_get h.events i)

same_own_at : (h : History) (s i : ℕ) → own_at (without_dues h) s i ≡ own_at h s i
unfolding own_at
same_own_at h s i = ap₂ (λ b (o : Option OwnCancel). cond b o None) (opened_same h s (i + 1)) (kinds_same h s i)

same_own : (h : History) → own (without_dues h) ≡ own h
unfolding own
same_own h = fun_ext (λ s. rw (without_length h, fun_ext (same_own_at h s)) refl)

same_own_cancel : (h : History) (s : ℕ) → own_cancel (without_dues h) s ≡ own_cancel h s
same_own_cancel h s = rw (same_own h) refl

same_cancel : (h : History) (s : ℕ) → first_cancel (without_dues h) s ≡ first_cancel h s
unfolding first_cancel
same_cancel h s = rw (same_outer h, fun_ext (same_own_cancel h)) refl

pub same_cancelled : (h : History) (s : ℕ) → is_cancelled (without_dues h) s ≡ is_cancelled h s
unfolding is_cancelled
same_cancelled h s = rw (same_cancel h s) refl

same_cancelled_at : (h : History) (s : ℕ) → cancelled_at (without_dues h) s ≡ cancelled_at h s
unfolding cancelled_at
same_cancelled_at h s = rw (same_opening h, same_cancel h s) refl

pub same_cancelled_before : (h : History) (s i : ℕ) → cancelled_before (without_dues h) s i ≡ cancelled_before h s i
unfolding cancelled_before
same_cancelled_before h s i = rw (same_cancelled_at h s) refl
