-- The first completion that can be read is the first of all, if that one can be read: completions are
-- readable up to the cancel, and unreadable after it.
use Rattle.std.proofs.Common.{[], ℕ, ◌&&◌, ◌||◌, ◌∙◌, ◌≡◌, Bool, Err, None, Ok, Option, Some, ap, cond, false, inl, refl, subst, sym, true}
use Rattle.scope_index.specs.{Accepts, Completion, EndValue, Event, History, Legal, Limits, Origin, Unavailable, completion_of, completions, cons_option, earliest, find, finished, finishes, first_read, followed, is_available}
use Rattle.scope_index.specs.{is_cancelled, option_and_then, option_or, readable, state, state_by_end}
use Rattle.scope_index.proofs.Words.{IsTask, along, both_ways, completions_grow, eq-eqb, find-append, finish_passed, finished_grows, forking_stays, or_right, running_task, state_ended}
use Rattle.scope_index.proofs.{Over.cancelled_stays, Readings.completes_it, Readings.ended_state, Readings.first_grows, Readings.forked_earlier, Readings.unreadable}

-- a completion of the scope: if it can't be read, the scope is cancelled
record Completed (h : History) (s : ℕ) (d : Completion) : Type 0 where
  task : IsTask h s d.task
  done : finished h d.task ≡ true
  first_cancel : is_available (state h d.task) ≡ false → is_cancelled h s ≡ true

-- the completion, if its task can be read
abbrev pub where_read : History → Completion → Option Completion
where_read h d = cond (is_available (state h d.task)) (Some d) None

-- the first that passes the test is this, and it is the first to be read if it can be
record IsFirst (test : Completion → Bool) (h : History) (s : ℕ) (o : Option Completion) : Type 0 where
  reads : first_read test h s ≡ option_and_then (where_read h) o
  found : (d : Completion) → o ≡ Some d → Completed h s d

ends_readable : (end : EndValue) → is_available (state_by_end end) ≡ true
ends_readable (Ok value) = refl
ends_readable (Err fault) = refl

-- what ends unread ends under a cancel
unread_end : (b : Bool) (end : EndValue) → is_available (cond b Unavailable (state_by_end end)) ≡ false → b ≡ true
unread_end true end unread = refl
unread_end false end unread = absurd (both_ways (is_available (state_by_end end)) unread (ends_readable end))

module _ (L : Limits) (test : Completion → Bool) (s : ℕ) (h : History) (e : Event) (legal : Legal L h) (ok : Accepts L h e) where
  -- a completion stays one
  completed_stays : (d : Completion) → Completed h s d → Completed (followed h e) s d
  completed_stays d was = record {
    task = record { forked = was.task.forked; is = forking_stays h e d.task was.task.forked was.task.is; of = was.task.of };
    done = finished_grows h e d.task ∙ ap (λ b. b || finishes d.task e) was.done;
    first_cancel = λ unread. cancelled_stays L h e s legal (was.first_cancel (ap is_available (sym (ended_state L h e d.task was.task.forked legal ok was.task.is was.done)) ∙ unread));
  }

  -- the event's completion is one
  completed_new : (d : Completion) → completion_of (followed h e) s e ≡ Some d → Completed (followed h e) s d
  completed_new d is =
      let it = completes_it (followed h e) s e d is in
      let accepted = subst (λ (x : Event). Accepts L h x) it.event ok in
      let was = forked_earlier h s d (subst (λ (x : Event). IsTask (followed h x) s d.task) it.event it.task) in
      let unfinished = running_task h d.task (finish_passed L h d.task d.end accepted).runs in
      let ended : state (followed h e) d.task ≡ cond (is_cancelled h was.forked.scope) Unavailable (state_by_end d.end) = ap (λ (x : Event). state (followed h x) d.task) it.event ∙ state_ended L h d.task d.end was.forked legal was.is unfinished in
      record {
        task = it.task;
        done = finished_grows h e d.task ∙ or_right (finished h d.task) (finishes d.task e) (ap (finishes d.task) it.event ∙ eq-eqb d.task d.task refl);
        first_cancel = λ unread.
            let cancelled = unread_end (is_cancelled h was.forked.scope) d.end (ap is_available (sym ended) ∙ unread) in
            cancelled_stays L h e s legal (ap (is_cancelled h) (sym was.of) ∙ cancelled);
      }

  -- if there was a first, it stays
  first_old : (d : Completion) (b : Bool) → Completed h s d → is_available (state h d.task) ≡ b → option_or (cond b (Some d) None) (readable test (followed h e) s e) ≡ cond b (Some d) None
  first_old d true was is = refl
  first_old d false was is = unreadable L test h e s legal ok (inl (was.first_cancel is))

  -- the first after the event
  first_next : (o c : Option Completion) → IsFirst test h s o → completion_of (followed h e) s e ≡ c → IsFirst test (followed h e) s (option_or o (find test (cons_option c [])))
  first_next (Some d) c was is =
      let it = was.found d refl in
      let same = ended_state L h e d.task it.task.forked legal ok it.task.is it.done in
      record {
        reads =
            first_grows L test h e s legal ok
            ∙ (ap (λ x. option_or x (readable test (followed h e) s e)) was.reads
            ∙ (first_old d (is_available (state h d.task)) it refl
            ∙ ap (λ x. cond (is_available x) (Some d) None) (sym same)));
        found = λ x found. let one : d ≡ x = cc in subst (λ (y : Completion). Completed (followed h e) s y) one (completed_stays d it);
      }
  first_next None None was is = record {
    reads = first_grows L test h e s legal ok ∙ (ap (λ x. option_or x (readable test (followed h e) s e)) was.reads ∙ ap (option_and_then (λ (d : Completion). cond (test d && is_available (state (followed h e) d.task)) (Some d) None)) is);
    found = λ x found. absurd cc;
  }
  first_next None (Some d) was is = by (test d) refl
    where
      by : (b : Bool) → test d ≡ b → IsFirst test (followed h e) s (cond b (Some d) None)
      by b passes = record {
        reads =
            first_grows L test h e s legal ok
            ∙ (ap (λ x. option_or x (readable test (followed h e) s e)) was.reads
            ∙ (ap (option_and_then (λ (x : Completion). cond (test x && is_available (state (followed h e) x.task)) (Some x) None)) is
            ∙ (ap (λ p. cond (p && is_available (state (followed h e) d.task)) (Some d) None) passes ∙ tested b)));
        found = λ x found. let one : d ≡ x = taken b x found in subst (λ (y : Completion). Completed (followed h e) s y) one (completed_new d is);
      }
        where
          tested : (p : Bool) → cond (p && is_available (state (followed h e) d.task)) (Some d) None ≡ option_and_then (where_read (followed h e)) (cond p (Some d) None)
          tested true = refl
          tested false = refl

          taken : (p : Bool) (x : Completion) → cond p (Some d) None ≡ Some x → d ≡ x
          taken true x found = cc
          taken false x found = absurd cc

start_first : (test : Completion → Bool) (s : ℕ) (b : Origin) → IsFirst test (record { base = b; events = [] }) s (find test (completions (record { base = b; events = [] }) s))
unfolding earliest completions
start_first test s b = record { reads = refl; found = λ d found. absurd cc }

-- what can be read first is the first completion, if that can be read
pub first_by_completions : (L : Limits) (test : Completion → Bool) (h : History) (s : ℕ) → Legal L h → first_read test h s ≡ option_and_then (where_read h) (find test (completions h s))
first_by_completions L test h s legal =
    (along L (λ g. IsFirst test g s (find test (completions g s))) (start_first test s)
    (λ g e lawful ok was.
    let o = find test (completions g s) in
    let c = completion_of (followed g e) s e in
    let more : find test (completions (followed g e) s) ≡ option_or o (find test (cons_option c [])) = ap (find test) (completions_grow L g e s lawful) ∙ find-append test (completions g s) (cons_option c []) in
    subst (λ x. IsFirst test (followed g e) s x) (sym more) (first_next L test s g e lawful ok o c was refl))
    h legal).reads
