-- If a scope is cancelled or none of its tasks waits or runs, no end is read that could not be before.
use Rattle.std.proofs.Common.{ℕ, ◌==◌, ◌∙◌, ◌≡◌, ◌⊎◌, Bool, None, Option, Some, ap, cond, false, inl, inr, is_some, length, refl, subst, sym, true}
use Rattle.scope_index.specs.{Accepts, EndValue, Ending, Event, Finish, FirstCancel, Fork, Forking, History, Legal, Limits, Unavailable, first_cancel, followed, forking, forking_of, is_cancelled, is_settled, option_map_or, ready}
use Rattle.scope_index.specs.{settled, stage, state, state_by_end, state_of}
use Rattle.scope_index.proofs.Words.{both_ways, cancel_stays, eq-eqb, eqb-true, finish_passed, forking_shown, forking_split, no_ending, or_cases, running_task, running_unsettled, settled_stays, settled_task, state_ended, state_is}
use Rattle.scope_index.proofs.Words.{state_stays}

-- the event forks a task in scope s
abbrev pub forks_for : ℕ → Event → Bool
forks_for s (Fork actor scope label) = scope == s
forks_for s _ = false

-- the scope is cancelled, or none of its tasks waits or runs
abbrev pub IsOver : History → ℕ → Type 0
IsOver h s = (is_cancelled h s ≡ true) ⊎ ((k : ℕ) (f : Forking) → forking h k ≡ Some f → f.scope ≡ s → is_settled (stage h k) ≡ true)

-- a scope that may be joined is so
pub over_ready : (h : History) (s : ℕ) → ready h s ≡ true → IsOver h s
unfolding ready
over_ready h s so = elim (or_cases (is_cancelled h s) (settled h s) so) [ inl cancelled ↦ inl cancelled | inr done ↦ inr (λ k f is of. settled_task h s k f done is of) ]

cancel_there : (L : Limits) (h : History) (e : Event) (s : ℕ) (o : Option FirstCancel) → Legal L h → first_cancel h s ≡ o → is_some o ≡ true → is_some (first_cancel (followed h e) s) ≡ true
cancel_there L h e s None legal is there = absurd cc
cancel_there L h e s (Some c) legal is there = ap is_some (cancel_stays L h e s c legal is)

-- a cancelled scope stays so
pub cancelled_stays : (L : Limits) (h : History) (e : Event) (s : ℕ) → Legal L h → is_cancelled h s ≡ true → is_cancelled (followed h e) s ≡ true
unfolding is_cancelled
cancelled_stays L h e s legal so = cancel_there L h e s (first_cancel h s) legal refl so

-- a forking that the event is, is one for its scope
pub forked_for : (i s : ℕ) (e : Event) (f : Forking) → forking_of i e ≡ Some f → f.scope ≡ s → forks_for s e ≡ true
forked_for i s e f is of = ap (forks_for s) (forking_shown i e f is).1 ∙ eq-eqb f.scope s of

-- a task of the scope that is there after an event that forks none in it was there before
pub task_before : (h : History) (e : Event) (s k : ℕ) (f : Forking) → forks_for s e ≡ false → forking (followed h e) k ≡ Some f → f.scope ≡ s → forking h k ≡ Some f
task_before h e s k f none is of =
    elim (forking_split h e k f is) [ inl old ↦ old | inr new ↦ absurd (both_ways (forks_for s e) none (forked_for (length h.events) s e f new.1 of)) ]

-- a scope that is over stays so, if no task is forked in it
pub over_stays : (L : Limits) (h : History) (e : Event) (s : ℕ) → Legal L h → forks_for s e ≡ false → IsOver h s → IsOver (followed h e) s
over_stays L h e s legal none over =
    elim over [
      | inl cancelled ↦ inl (cancelled_stays L h e s legal cancelled)
      | inr done ↦ inr (λ k f is of. let old = task_before h e s k f none is of in settled_stays L h e k f legal old (done k f old of))
    ]

-- a task that runs in a scope that is over runs under a cancel
cancelled_by : (h : History) (s k : ℕ) (f : Forking) → IsOver h s → forking h k ≡ Some f → f.scope ≡ s → is_settled (stage h k) ≡ false → is_cancelled h s ≡ true
cancelled_by h s k f over is of runs =
    elim over [ inl cancelled ↦ cancelled | inr done ↦ absurd (both_ways (is_settled (stage h k)) runs (done k f is of)) ]

-- an end of a task of such a scope can't be read
pub over_ended : (L : Limits) (h : History) (s k : ℕ) (end : EndValue) (f : Forking) → Legal L h → Accepts L h (Finish k end) → IsOver h s → forking h k ≡ Some f → f.scope ≡ s → state (followed h (Finish k end)) k ≡ Unavailable
over_ended L h s k end f legal ok over is of =
    let runs = (finish_passed L h k end ok).runs in
    let cancelled = cancelled_by h s k f over is of (running_unsettled (stage h k) runs) in
    let cancel_off : is_cancelled h f.scope ≡ true = ap (is_cancelled h) of ∙ cancelled in
    state_ended L h k end f legal is (running_task h k runs) ∙ ap (λ b. cond b Unavailable (state_by_end end)) cancel_off

-- and neither could the task be read before
pub running_state : (L : Limits) (h : History) (k : ℕ) (end : EndValue) (f : Forking) → Accepts L h (Finish k end) → forking h k ≡ Some f → state h k ≡ Unavailable
running_state L h k end f ok is =
    let unended = no_ending h k (running_task h k (finish_passed L h k end ok).runs) in
    state_is h k f is ∙ ap (λ (o : Option Ending). option_map_or (state_of h f) o Unavailable) unended

-- so the states of its tasks stay
pub over_states : (L : Limits) (h : History) (e : Event) (s k : ℕ) (f : Forking) → Legal L h → Accepts L h e → IsOver h s → forking h k ≡ Some f → f.scope ≡ s → state (followed h e) k ≡ state h k
over_states L h (Finish task end) s k f legal ok over is of = by (task == k) refl
  where
    by : (b : Bool) → (task == k) ≡ b → state (followed h (Finish task end)) k ≡ state h k
    by true same =
        let one : task ≡ k = eqb-true task k same in
        let accepted = subst (λ (n : ℕ). Accepts L h (Finish n end)) one ok in
        ap (λ (n : ℕ). state (followed h (Finish n end)) k) one ∙ (over_ended L h s k end f legal accepted over is of ∙ sym (running_state L h k end f accepted is))
    by false other = state_stays L h (Finish task end) k f legal is (ap (λ b. cond b (Some (record { place = length h.events; end = end })) None) other)
over_states L h e s k f legal ok over is of = state_stays L h e k f legal is refl
