-- The first completion that can be read of a scope is the first before its mark.
use Rattle.std.proofs.Common.{[], ℕ, ◌&&◌, ◌||◌, ◌∙◌, ◌∷◌, ◌≡◌, ◌≤◌, Bool, Err, List, None, Ok, Option, Some, add-one, ap, arith, cond, false, length, refl, slice_get, subst, suc, sym, take, true, zero}
use Rattle.std.proofs.lemmas.Bool.{or_left, or_right}
use Rattle.scope_log.specs.{Accepts, Completion, EndValue, Event, Finish, History, Legal, Limits, Unavailable, Words.state, before_mark, completion_of, completions, completions_in, cons_option, earliest, entries, filter_map, find}
use Rattle.scope_log.specs.{finished, finishes, first_read, followed, is_available, is_cancelled, is_task_of, list_any, option_and_then, option_or, readable, readable_in, state_by_end}
use Rattle.scope_log.proofs.Words.{along, and_right, both_ways, completions_grow, entry_at, eq-eqb, false_from_ne_true, find-append, finish_passed, finisher_passed, running_task, state_ended, state_stays, take_all, take_at}
use Rattle.scope_log.proofs.Words.{task_there}
use Rattle.scope_log.proofs.{FirstParts.first_of, FirstParts.first_of-append, LogStates.find_grows, LogStates.unended, LogTasks.task_grows}

-- ---- the same search, over the completions

or_none : {A : Type 0} (o : Option A) → o ≡ option_or o None
or_none None = refl
or_none (Some x) = refl

searched : {B : Type 0} (f : Event → Option B) (es : List Event) (n : ℕ) → n ≤ length es → earliest (λ i. option_and_then f (slice_get es i)) n ≡ first_of f (take n es)
unfolding earliest first_of
searched f es zero within = refl
searched f es (suc n) within =
    let here = entry_at es n (omega arith) in
    rw (searched f es n (omega arith))
    (ap (λ o. option_or (first_of f (take n es)) (option_and_then f o)) here.1
    ∙ (ap (option_or (first_of f (take n es))) (or_none (f here.0))
    ∙ (sym (first_of-append f (take n es) (here.0 ∷ [])) ∙ ap (first_of f) (rw (add-one n) at (sym (take_at es n here.0 here.1))))))

-- the first that is there and passes is the first that passes of those that are there
first_passing : (c : Event → Option Completion) (p : Completion → Bool) (es : List Event) → first_of (λ e. option_and_then (λ d. cond (p d) (Some d) None) (c e)) es ≡ find p (filter_map c es)
unfolding first_of
first_passing c p [] = refl
first_passing c p (e ∷ es) = rw (first_passing c p es) (by (c e))
  where
    by : (o : Option Completion) → option_or (option_and_then (λ d. cond (p d) (Some d) None) o) (find p (filter_map c es)) ≡ find p (cons_option o (filter_map c es))
    by None = refl
    by (Some d) = chosen (p d)
      where
        chosen : (b : Bool) → option_or (cond b (Some d) None) (find p (filter_map c es)) ≡ cond b (Some d) (find p (filter_map c es))
        chosen true = refl
        chosen false = refl

-- the completion passes, and can be read
abbrev reads : (Completion → Bool) → History → Completion → Bool
reads test h d = test d && is_available (state h d.task)

first_is : (test : Completion → Bool) (h : History) (s : ℕ) → first_read test h s ≡ find (reads test h) (completions h s)
unfolding completions
first_is test h s =
    searched (readable test h s) h.events (length h.events) (omega arith)
    ∙ (ap (first_of (readable test h s)) (take_all (length h.events) h.events (omega arith)) ∙ first_passing (completion_of h s) (reads test h) h.events)

-- ---- one event more

-- the end of a task of the scope
record Ends (h : History) (s : ℕ) (e : Event) (d : Completion) : Type 0 where
  event : e ≡ Finish d.task d.end
  task : is_task_of h s d.task ≡ true

ends_it : (h : History) (s : ℕ) (e : Event) (d : Completion) → completion_of h s e ≡ Some d → Ends h s e d
ends_it h s (Finish task end) d is = by (is_task_of h s task) refl is
  where
    by : (b : Bool) → is_task_of h s task ≡ b → cond b (Some (record { task = task; end = end })) None ≡ Some d → Ends h s (Finish task end) d
    by true there same =
        let it : record { task = task; end = end } ≡ d = cc in
        subst (λ (x : Completion). Ends h s (Finish task end) x) it (record { event = refl; task = there })
    by false there same = absurd cc
ends_it h s _ d is = absurd cc

found_same : (c : Event → Option Completion) (p q : Completion → Bool) (es : List Event) → ((i : ℕ) (e : Event) (d : Completion) → slice_get es i ≡ Some e → c e ≡ Some d → p d ≡ q d) → find p (filter_map c es) ≡ find q (filter_map c es)
found_same c p q [] same = refl
found_same c p q (e ∷ es) same = by (c e) refl (found_same c p q es (λ i x d at is. same (suc i) x d at is))
  where
    by : (o : Option Completion) → c e ≡ o → find p (filter_map c es) ≡ find q (filter_map c es) → find p (cons_option o (filter_map c es)) ≡ find q (cons_option o (filter_map c es))
    by None is rest = rest
    by (Some d) is rest = rw (same 0 e d refl is) (ap (cond (q d) (Some d)) rest)

any_at : (p : Event → Bool) (es : List Event) (i : ℕ) (e : Event) → slice_get es i ≡ Some e → p e ≡ true → list_any p es ≡ true
any_at p [] i e at so = absurd cc
any_at p (x ∷ es) zero e at so = let same : x ≡ e = cc in or_left (p x) (list_any p es) (ap p same ∙ so)
any_at p (x ∷ es) (suc i) e at so = or_right (p x) (list_any p es) (any_at p es i e at so)

ends_readable : (end : EndValue) → is_available (state_by_end end) ≡ true
ends_readable (Ok value) = refl
ends_readable (Err fault) = refl

module _ (L : Limits) (test : Completion → Bool) (s : ℕ) (h : History) (e : Event) (legal : Legal L h) (ok : Accepts L h e) where
  -- what completed can be read as before
  old_read : (i : ℕ) (x : Event) (d : Completion) → slice_get h.events i ≡ Some x → completion_of h s x ≡ Some d → reads test (followed h e) d ≡ reads test h d
  unfolding finished
  old_read i x d at is =
      let it = ends_it h s x d is in
      let there = task_there h s d.task it.task in
      let done : finished h d.task ≡ true = any_at (finishes d.task) h.events i x at (ap (finishes d.task) it.event ∙ eq-eqb d.task d.task refl) in
      let other : finishes d.task e ≡ false = false_from_ne_true (finishes d.task e) (λ so. both_ways (finished h d.task) (running_task h d.task (finisher_passed L h e d.task so ok).runs) done) in
      ap (λ x. test d && is_available x) (state_stays L h e d.task there.forked legal there.is (unended d.task (length h.events) e other))

  -- the event's completion can be read, unless the scope is cancelled by then
  new_read : (d : Completion) → completion_of (followed h e) s e ≡ Some d → reads test (followed h e) d ≡ (test d && is_available (cond (is_cancelled h s) Unavailable (state_by_end d.end)))
  new_read d is =
      let it = ends_it (followed h e) s e d is in
      let accepted = subst (λ (x : Event). Accepts L h x) it.event ok in
      let in_it = subst (λ (x : Event). is_task_of (followed h x) s d.task ≡ true) it.event it.task in
      let was : is_task_of h s d.task ≡ true = sym (task_grows h (Finish d.task d.end) s d.task ∙ or_false (is_task_of h s d.task)) ∙ in_it in
      let there = task_there h s d.task was in
      let unfinished = running_task h d.task (finish_passed L h d.task d.end accepted).runs in
      ap (λ (x : Event). test d && is_available (state (followed h x) d.task)) it.event
      ∙ (ap (λ x. test d && is_available x) (state_ended L h d.task d.end there.forked legal there.is unfinished)
      ∙ ap (λ n. test d && is_available (cond (is_cancelled h n) Unavailable (state_by_end d.end))) there.of)
    where
      or_false : (b : Bool) → (b || false) ≡ b
      or_false true = refl
      or_false false = refl

  new_first : find (reads test (followed h e)) (cons_option (completion_of (followed h e) s e) []) ≡ cond (is_cancelled h s) None (find test (cons_option (completion_of (followed h e) s e) []))
  new_first = by (completion_of (followed h e) s e) refl
    where
      chosen : (b p : Bool) (d : Completion) → cond (p && is_available (cond b Unavailable (state_by_end d.end))) (Some d) None ≡ cond b None (cond p (Some d) None)
      chosen true p d = ap (λ c. cond c (Some d) None) (and_right p false refl)
      chosen false false d = refl
      chosen false true d = ap (λ c. cond c (Some d) None) (ends_readable d.end)

      none : (b : Bool) → None ≡ cond b None (find test [])
      none true = refl
      none false = refl

      by : (o : Option Completion) → completion_of (followed h e) s e ≡ o → find (reads test (followed h e)) (cons_option o []) ≡ cond (is_cancelled h s) None (find test (cons_option o []))
      by None is = none (is_cancelled h s)
      by (Some d) is = ap (λ b. cond b (Some d) None) (new_read d is) ∙ chosen (is_cancelled h s) (test d) d

  first_step : find test (readable_in (entries h s)) ≡ find (reads test h) (completions h s) → find test (readable_in (entries (followed h e) s)) ≡ find (reads test (followed h e)) (completions (followed h e) s)
  unfolding completions
  first_step so =
      let g = followed h e in
      let c = completion_of g s e in
      find_grows test L h e s legal
      ∙ (ap (λ o. option_or o (cond (is_cancelled h s) None (find test (cons_option c [])))) (so ∙ sym (found_same (completion_of h s) (reads test g) (reads test h) h.events old_read))
      ∙ (ap (option_or (find (reads test g) (completions h s))) (sym new_first)
      ∙ (sym (find-append (reads test g) (completions h s) (cons_option c [])) ∙ ap (find (reads test g)) (sym (completions_grow L h e s legal)))))

-- the entries tell what can be read first
pub first_told : (L : Limits) (test : Completion → Bool) (h : History) (s : ℕ) → Legal L h → find test (readable_in (entries h s)) ≡ first_read test h s
unfolding entries completions_in before_mark completions
first_told L test h s legal =
    along L (λ g. find test (readable_in (entries g s)) ≡ find (reads test g) (completions g s)) (λ b. refl) (λ g e lawful ok so. first_step L test s g e lawful ok so) h legal
    ∙ sym (first_is test h s)
