-- What the first completion that can be read goes by, one event more.
use Rattle.std.proofs.Common.{[], ℕ, ◌&&◌, ◌++◌, ◌<◌, ◌==◌, ◌∙◌, ◌∷◌, ◌≡◌, Bool, List, None, Option, Some, ap, arith, cond, false, length, length-append, refl, slice_get, subst, suc, sym, true, zero}
use Rattle.scope_index.specs.{Accepts, Completion, Event, Finish, Forking, History, Legal, Limits, before, completion_of, earliest, ending_of, finished, finishes, first_read, followed, forking, is_available, is_task_of, list_any}
use Rattle.scope_index.specs.{option_and_then, option_map_or, option_or, readable, readable_at, state}
use Rattle.scope_index.proofs.Words.{IsTask, and_right, both_ways, earliest_same, entry_at, eq-eqb, false_from_ne_true, finish_passed, finisher_passed, forking_same, forking_since, get_push, is_task_stays, last_event}
use Rattle.scope_index.proofs.Words.{option_or-none, or_left, or_right, running_forked, running_task, state_stays, task_there}
use Rattle.scope_index.proofs.Over.{IsOver, over_ended}

any_at : (p : Event → Bool) (es : List Event) (i : ℕ) (e : Event) → slice_get es i ≡ Some e → p e ≡ true → list_any p es ≡ true
any_at p [] i e at so = absurd cc
any_at p (x ∷ es) zero e at so = let same : x ≡ e = cc in or_left (p x) (list_any p es) (ap p same ∙ so)
any_at p (x ∷ es) (suc i) e at so = or_right (p x) (list_any p es) (any_at p es i e at so)

pub is_task : (h : History) (s k : ℕ) → IsTask h s k → is_task_of h s k ≡ true
unfolding is_task_of
is_task h s k it = ap (λ (o : Option Forking). option_map_or (λ (f : Forking). f.scope == s) o false) it.is ∙ eq-eqb it.forked.scope s it.of

unended : (k i : ℕ) (e : Event) → finishes k e ≡ false → ending_of k i e ≡ None
unended k i (Finish task end) none = ap (λ b. cond b (Some (record { place = i; end = end })) None) none
unended k i _ none = refl

-- an accepted event does not end what has ended
not_again : (L : Limits) (h : History) (e : Event) (k : ℕ) → Accepts L h e → finished h k ≡ true → finishes k e ≡ false
not_again L h e k ok done = false_from_ne_true (finishes k e) (λ so. both_ways (finished h k) (running_task h k (finisher_passed L h e k so ok).runs) done)

-- the state of a task that has ended stays
pub ended_state : (L : Limits) (h : History) (e : Event) (k : ℕ) (f : Forking) → Legal L h → Accepts L h e → forking h k ≡ Some f → finished h k ≡ true → state (followed h e) k ≡ state h k
ended_state L h e k f legal ok is done = state_stays L h e k f legal is (unended k (length h.events) e (not_again L h e k ok done))

-- an event that is a completion ends a task of the scope
pub record Completes (h : History) (s : ℕ) (e : Event) (d : Completion) : Type 0 where
  pub event : e ≡ Finish d.task d.end
  pub task : IsTask h s d.task

pub completes_it : (h : History) (s : ℕ) (e : Event) (d : Completion) → completion_of h s e ≡ Some d → Completes h s e d
completes_it h s (Finish task end) d is = by (is_task_of h s task) refl is
  where
    by : (b : Bool) → is_task_of h s task ≡ b → cond b (Some (record { task = task; end = end })) None ≡ Some d → Completes h s (Finish task end) d
    by true there same =
        let it : record { task = task; end = end } ≡ d = cc in
        subst (λ (x : Completion). Completes h s (Finish task end) x) it (record { event = refl; task = task_there h s task there })
    by false there same = absurd cc
completes_it h s _ d is = absurd cc

-- a task that the event ends was forked before it
pub forked_earlier : (h : History) (s : ℕ) (d : Completion) → IsTask (followed h (Finish d.task d.end)) s d.task → IsTask h s d.task
forked_earlier h s d it = record { forked = it.forked; is = sym (forking_same h (Finish d.task d.end) d.task refl) ∙ it.is; of = it.of }

-- in a scope that is over no completion more can be read
pub unreadable : (L : Limits) (test : Completion → Bool) (h : History) (e : Event) (s : ℕ) → Legal L h → Accepts L h e → IsOver h s → readable test (followed h e) s e ≡ None
unreadable L test h e s legal ok over = by (completion_of (followed h e) s e) refl
  where
    by : (o : Option Completion) → completion_of (followed h e) s e ≡ o → option_and_then (λ (d : Completion). cond (test d && is_available (state (followed h e) d.task)) (Some d) None) o ≡ None
    by None is = refl
    by (Some d) is =
        let it = completes_it (followed h e) s e d is in
        let accepted = subst (λ (x : Event). Accepts L h x) it.event ok in
        let was = forked_earlier h s d (subst (λ (x : Event). IsTask (followed h x) s d.task) it.event it.task) in
        let gone = ap (λ (x : Event). state (followed h x) d.task) it.event ∙ over_ended L h s d.task d.end was.forked legal accepted over was.is was.of in
        ap (λ b. cond b (Some d) None) (and_right (test d) (is_available (state (followed h e) d.task)) (ap is_available gone))

-- whether what stands completes a task of the scope stays
completion_kept : (L : Limits) (h : History) (more : Event) (s i : ℕ) (e : Event) → Legal L h → slice_get h.events i ≡ Some e → completion_of (followed h more) s e ≡ completion_of h s e
unfolding Legal
completion_kept L h more s i (Finish k end) legal at =
    let it = running_forked (before h i) k (finish_passed L (before h i) k end (legal i (Finish k end) at)).runs in
    ap (λ b. cond b (Some (record { task = k; end = end })) None) (is_task_stays h more s k it.forked (forking_since h k i it.forked it.is))
completion_kept L h more s i _ legal at = refl

-- what stands in the history is read as before
read_kept : (L : Limits) (test : Completion → Bool) (h : History) (more : Event) (s i : ℕ) (e : Event) → Legal L h → Accepts L h more → slice_get h.events i ≡ Some e → readable test (followed h more) s e ≡ readable test h s e
unfolding finished
read_kept L test h more s i e legal ok at =
    ap (option_and_then (λ (d : Completion). cond (test d && is_available (state (followed h more) d.task)) (Some d) None)) (completion_kept L h more s i e legal at) ∙ by (completion_of h s e) refl
  where
    by : (o : Option Completion) → completion_of h s e ≡ o
        → option_and_then (λ (d : Completion). cond (test d && is_available (state (followed h more) d.task)) (Some d) None) o ≡ option_and_then (λ (d : Completion). cond (test d && is_available (state h d.task)) (Some d) None) o
    by None is = refl
    by (Some d) is =
        let it = completes_it h s e d is in
        let done : finished h d.task ≡ true = any_at (finishes d.task) h.events i e at (ap (finishes d.task) it.event ∙ eq-eqb d.task d.task refl) in
        ap (λ x. cond (test d && is_available x) (Some d) None) (ended_state L h more d.task it.task.forked legal ok it.task.is done)

-- the first completion that can be read stays, or is the event
pub first_grows : (L : Limits) (test : Completion → Bool) (h : History) (e : Event) (s : ℕ) → Legal L h → Accepts L h e → first_read test (followed h e) s ≡ option_or (first_read test h s) (readable test (followed h e) s e)
unfolding earliest
first_grows L test h e s legal ok =
    let longer : length (h.events ++ e ∷ []) ≡ suc (length h.events) = length-append h.events (e ∷ []) ∙ omega arith in
    let g = followed h e in
    let old : (i : ℕ) → i < length h.events → readable_at test g s i ≡ readable_at test h s i = λ i within.
    let here = entry_at h.events i within in
    ap (option_and_then (readable test g s)) (get_push h.events e i within ∙ here.1) ∙ (read_kept L test h e s i here.0 legal ok here.1 ∙ sym (ap (option_and_then (readable test h s)) here.1)) in
    rw longer
    (rw (earliest_same (readable_at test g s) (readable_at test h s) (length h.events) old)
    (ap (λ o. option_or (first_read test h s) (option_and_then (readable test g s) o)) (last_event h.events e)))

-- a scope that is over keeps it
pub first_over : (L : Limits) (test : Completion → Bool) (h : History) (e : Event) (s : ℕ) → Legal L h → Accepts L h e → IsOver h s → first_read test (followed h e) s ≡ first_read test h s
first_over L test h e s legal ok over =
    first_grows L test h e s legal ok ∙ (ap (option_or (first_read test h s)) (unreadable L test h e s legal ok over) ∙ option_or-none (first_read test h s))
