-- What cancels scopes stays, but for the numbers, if so many others were numbered before.
use Rattle.std.proofs.Common.{[], ℕ, ◌+ℤ◌, ◌+◌, ◌∙◌, ◌∷◌, ◌≡◌, Bool, List, None, Option, Some, ap, ap₂, cond, false, is_some, map, max, option_map, refl, slice_get, true}
use Rattle.script_journal.specs.{All, Any, AwaitAll, AwaitOk, BeginClose, Cancel, CauseKind, Close, Completion, Deadline, Event, FailuresAtLeast, Finish, FirstCancel, Forking, History, Joiner, Legal, Limits, Move, Opening}
use Rattle.script_journal.specs.{OwnCancel, Policy, SuccessesAtLeast, SumAtLeast, Until, before, cancelled_at, cancelled_before, completes, completion_of, completions, deadline, direct_kind, fires, first_cancel, forking}
use Rattle.script_journal.specs.{has_failed, has_succeeded, is_cancelled, is_task_of, joiner_fires, kind_by, meets, move_of, opening, option_and_then, option_or, outer, overdue, own, own_at, own_cancel, shifted, summand_of_end}
use Rattle.script_journal.specs.{total_of}
use Rattle.script_journal.proofs.Lemmas.{any_mapped, cancel_shifted, count_mapped, fun_ext, map_or_mapped, outer_inward, still_some, then_mapped}
use Rattle.script_journal.proofs.{RaisedEvents.raise, RaisedEvents.raised_at, RaisedEvents.raised_before, RaisedEvents.raised_forking, RaisedEvents.raised_length, RaisedEvents.raised_moment, RaisedEvents.raised_opening}
use Rattle.script_journal.proofs.{RaisedScopes.raised_covers, RaisedScopes.raised_joined, RaisedScopes.raised_outer, Raising.filter_raised, Raising.last_raised, Raising.raised, Raising.same_behind, Raising.up, Raising.up_forking}
use Rattle.script_journal.proofs.{Raising.up_opening}

-- ---- joiners

abbrev up_completion : ℕ → Completion → Completion
up_completion tasks d = record d { task = up tasks d.task }

total_raised : (n : ℕ) (ds : List Completion) → total_of (map (up_completion n) ds) ≡ total_of ds
unfolding total_of
total_raised n [] = refl
total_raised n (d ∷ ds) = ap (λ t. summand_of_end d.end +ℤ t) (total_raised n ds)

fires_raised : (n : ℕ) (policy : Policy) (ds : List Completion) → fires policy (map (up_completion n) ds) ≡ fires policy ds
unfolding fires meets
fires_raised n All ds = any_mapped (up_completion n) has_failed (λ d. refl) ds
fires_raised n Any ds = any_mapped (up_completion n) has_succeeded (λ d. refl) ds
fires_raised n AwaitAll ds = refl
fires_raised n AwaitOk ds = any_mapped (up_completion n) has_failed (λ d. refl) ds
fires_raised n (Until (FailuresAtLeast count)) ds = rw (count_mapped (up_completion n) has_failed (λ d. refl) ds) refl
fires_raised n (Until (SuccessesAtLeast count)) ds = rw (count_mapped (up_completion n) has_succeeded (λ d. refl) ds) refl
fires_raised n (Until (SumAtLeast sum)) ds = rw (total_raised n ds) refl

module _ (S K : ℕ) where
  -- ---- deadlines

  move_raised : (s : ℕ) (e : Event) → move_of (S + s) (raised S K e) ≡ move_of s e
  move_raised s (Move scope deadline) = rw (same_behind S scope s) refl
  move_raised s _ = refl

  set_raised : (o : Option Opening) → option_and_then (λ (x : Opening). x.options.deadline) (option_map (up_opening K) o) ≡ option_and_then (λ (x : Opening). x.options.deadline) o
  set_raised None = refl
  set_raised (Some x) = refl

  raised_deadline : (h : History) (s : ℕ) → deadline (raise S K h) (S + s) ≡ deadline h s
  unfolding deadline
  raised_deadline h s = rw (last_raised (raised S K) (move_of (S + s)) (move_of s) (move_raised s) h.events, raised_opening S K h s, set_raised (opening h s)) refl

  raised_overdue : (h : History) (s : ℕ) → overdue (raise S K h) (S + s) ≡ overdue h s
  unfolding overdue
  raised_overdue h s = rw (raised_joined S K h s, raised_moment S K h, raised_deadline h s) refl

  -- ---- what an event does to a scope

  direct_raised : (h : History) (s : ℕ) (e : Event) → direct_kind (raise S K h) (S + s) (raised S K e) ≡ direct_kind h s e
  direct_raised h s (Cancel scope) = rw (same_behind S scope s) refl
  direct_raised h s (BeginClose actor scope) = ap (λ b. cond b (Some Close) None) (raised_covers S K h scope s)
  direct_raised h s _ = refl

  pub raised_is_task_of : (h : History) (s k : ℕ) → is_task_of (raise S K h) (S + s) (up K k) ≡ is_task_of h s k
  unfolding is_task_of
  raised_is_task_of h s k =
      rw (raised_forking S K h k)
      (map_or_mapped (up_forking S K) _ _ (λ (f : Forking). same_behind S f.scope s) false (forking h k))

  completed_if : (b : Bool) (d : Completion) → cond b (Some (up_completion K d)) None ≡ option_map (up_completion K) (cond b (Some d) None)
  completed_if true d = refl
  completed_if false d = refl

  completion_raised : (h : History) (s : ℕ) (e : Event) → completion_of (raise S K h) (S + s) (raised S K e) ≡ option_map (up_completion K) (completion_of h s e)
  completion_raised h s (Finish task end) = rw (raised_is_task_of h s task) (completed_if (is_task_of h s task) (record { task = task; end = end }))
  completion_raised h s _ = refl

  raised_completions : (h : History) (s : ℕ) → completions (raise S K h) (S + s) ≡ map (up_completion K) (completions h s)
  unfolding completions
  raised_completions h s = filter_raised (raised S K) (up_completion K) (completion_of (raise S K h) (S + s)) (completion_of h s) (completion_raised h s) h.events

  completes_raised : (h : History) (s : ℕ) (e : Event) → completes (raise S K h) (S + s) (raised S K e) ≡ completes h s e
  completes_raised h s (Finish task end) = raised_is_task_of h s task
  completes_raised h s _ = refl

  joiner_raised : (h : History) (s : ℕ) (e : Event) → joiner_fires (raise S K h) (S + s) (raised S K e) ≡ joiner_fires h s e
  unfolding joiner_fires
  joiner_raised h s e =
      rw (
        completes_raised h s e,
        raised_completions h s,
        raised_opening S K h s,
        map_or_mapped (up_opening K) _ _ (λ (o : Opening). fires_raised K o.policy (completions h s)) false (opening h s),
      ) refl

  -- what gives scope s its own cancel at the event, between two histories
  abbrev kind_between : ℕ → History → History → Event → Option CauseKind
  kind_between s g k e = option_or (direct_kind g s e) (cond (joiner_fires k s e) (Some Joiner) (cond (overdue k s) (Some Deadline) None))

  between_raised : (s : ℕ) (g k : History) (e : Event) → kind_between (S + s) (raise S K g) (raise S K k) (raised S K e) ≡ kind_between s g k e
  between_raised s g k e = rw (direct_raised g s e, joiner_raised k s e, raised_overdue k s) refl

  kind_raised : (h : History) (s i : ℕ) (e : Event) → kind_by (raise S K h) (S + s) i (raised S K e) ≡ kind_by h s i e
  kind_raised h s i e =
      ap (λ (g : History). kind_between (S + s) g (before (raise S K h) (i + 1)) (raised S K e)) (raised_before S K h i)
      ∙ (ap (λ (k : History). kind_between (S + s) (raise S K (before h i)) k (raised S K e)) (raised_before S K h (i + 1))
      ∙ between_raised s (before h i) (before h (i + 1)) e)

  -- the own cancel at place i
  abbrev own_by : ℕ → Option CauseKind → Option OwnCancel
  own_by i o = option_map (λ kind. record { place = i; kind = kind }) o

  opened_raised : (h : History) (s i : ℕ) → is_some (opening (before (raise S K h) i) (S + s)) ≡ is_some (opening (before h i) s)
  opened_raised h s i =
      ap (λ (g : History). is_some (opening g (S + s))) (raised_before S K h i)
      ∙ (ap is_some (raised_opening S K (before h i) s) ∙ still_some (up_opening K) (opening (before h i) s))

  kinds_raised : (h : History) (s i : ℕ) → option_and_then (λ e. own_by i (kind_by (raise S K h) (S + s) i e)) (slice_get (raise S K h).events i) ≡ option_and_then (λ e. own_by i (kind_by h s i e)) (slice_get h.events i)
  kinds_raised h s i =
      ap (option_and_then (λ e. own_by i (kind_by (raise S K h) (S + s) i e))) (raised_at S K h i)
      ∙ then_mapped (raised S K) (λ e. own_by i (kind_by (raise S K h) (S + s) i e)) (λ e. own_by i (kind_by h s i e)) (λ e. ap (own_by i) (kind_raised h s i e)) (slice_get h.events i)

  own_raised_at : (h : History) (s i : ℕ) → own_at (raise S K h) (S + s) i ≡ own_at h s i
  unfolding own_at
  own_raised_at h s i = ap₂ (λ b (o : Option OwnCancel). cond b o None) (opened_raised h s (i + 1)) (kinds_raised h s i)

  raised_own : (h : History) (s : ℕ) → own (raise S K h) (S + s) ≡ own h s
  unfolding own
  raised_own h s = rw (raised_length S K h, fun_ext (own_raised_at h s)) refl

  cancel_of : (s : ℕ) (o : Option OwnCancel) → option_map (λ (w : OwnCancel). record { place = w.place; cause = record { scope = S + s; kind = w.kind } }) o ≡ option_map (shifted S) (option_map (λ (w : OwnCancel). record { place = w.place; cause = record { scope = s; kind = w.kind } }) o)
  cancel_of s None = refl
  cancel_of s (Some w) = refl

  raised_own_cancel : (h : History) (s : ℕ) → own_cancel (raise S K h) (S + s) ≡ option_map (shifted S) (own_cancel h s)
  raised_own_cancel h s = rw (raised_own h s) (cancel_of s (own h s))

  -- ---- the first cancel on a chain

  module _ (L : Limits) (h : History) (legal : Legal L h) (later : Legal L (raise S K h)) where
    raised_cancel : (s : ℕ) → first_cancel (raise S K h) (S + s) ≡ option_map (shifted S) (first_cancel h s)
    unfolding first_cancel
    raised_cancel s =
        cancel_shifted S (outer h) (outer (raise S K h)) (outer_inward L h legal) (outer_inward L (raise S K h) later) (raised_outer S K h) (own_cancel h) (own_cancel (raise S K h)) s (raised_own_cancel h)

    pub raised_cancelled : (s : ℕ) → is_cancelled (raise S K h) (S + s) ≡ is_cancelled h s
    unfolding is_cancelled
    raised_cancelled s = ap is_some (raised_cancel s) ∙ still_some (shifted S) (first_cancel h s)

    -- the place by which a scope that was opened so became cancelled
    abbrev cancelled_place : Option Opening → Option FirstCancel → Option ℕ
    cancelled_place o c = option_and_then (λ (x : Opening). option_map (λ (d : FirstCancel). max x.place d.place) c) o

    place_raised : (o : Option Opening) (c : Option FirstCancel) → cancelled_place (option_map (up_opening K) o) (option_map (shifted S) c) ≡ cancelled_place o c
    place_raised None c = refl
    place_raised (Some x) None = refl
    place_raised (Some x) (Some c) = refl

    raised_cancelled_at : (s : ℕ) → cancelled_at (raise S K h) (S + s) ≡ cancelled_at h s
    unfolding cancelled_at
    raised_cancelled_at s = rw (raised_opening S K h s, raised_cancel s) (place_raised (opening h s) (first_cancel h s))

    pub raised_cancelled_before : (s i : ℕ) → cancelled_before (raise S K h) (S + s) i ≡ cancelled_before h s i
    unfolding cancelled_before
    raised_cancelled_before s i = rw (raised_cancelled_at s) refl
