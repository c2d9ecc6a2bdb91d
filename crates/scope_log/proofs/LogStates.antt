-- The completions in the entries of a scope, and which of them can be read.
use Rattle.std.proofs.Common.{[], ℕ, ◌&&◌, ◌++◌, ◌+◌, ◌==◌, ◌||◌, ◌∙◌, ◌∷◌, ◌≡◌, Bool, List, None, Option, Some, ap, arith, cond, false, inl, inr, length, refl, sym, true}
use Rattle.std.proofs.lemmas.Bool.{or_left}
use Rattle.scope_log.specs.{Accepts, Completion, Ending, Event, Finish, Fork, Forking, History, Legal, Limits, LogEntry, Origin, State, Unavailable, Words.state, Words.tasks, before_first, before_mark, completion_of}
use Rattle.scope_log.specs.{completion_said, completions, completions_in, cons_option, earliest, ending_of, entries, entry_of, filter_map, find, finished, finishes, finishes_task, followed, forking, is_cancelled, is_end_of}
use Rattle.scope_log.specs.{is_mark, is_of, is_task_of, list_any, option_and_then, option_map_or, option_or, readable_in, said, state_by_end, state_in, state_of}
use Rattle.scope_log.proofs.Words.{along, completions_grow, eq-eqb, eqb-true, false_from_ne_true, filter_map-append, find-append, finished_forked, finished_grows, finisher_passed, forked_after, forking_shown, forking_split}
use Rattle.scope_log.proofs.Words.{no_ending, or_parts, running_task, state_ended, state_is, state_stays, task_there}
use Rattle.scope_log.proofs.{FirstParts.before_first-cons, FirstParts.pick_one, LogMarks.cond_none, LogMarks.gives_by, LogMarks.parted, LogMarks.picks_grow, LogTasks.finished_told, LogTasks.task_grows}
use Rattle.scope_log.specs.declared.entries.LogEntry.TheVariants as entry

-- ---- completions

or_false : (b : Bool) → (b || false) ≡ b
or_false true = refl
or_false false = refl

-- the entry of the end of a task is its completion
completion_shown : (h : History) (s : ℕ) (e : Event) → option_and_then completion_said (entry_of h s e) ≡ completion_of (followed h e) s e
completion_shown h s e = gives_by completion_said h s e ∙ by e
  where
    by : (x : Event) → cond (is_of h s x) (option_and_then completion_said (said h x)) None ≡ completion_of (followed h x) s x
    by (Finish task end) = ap (λ b. cond b (Some (record { task = task; end = end })) None) (sym (task_grows h (Finish task end) s task ∙ or_false (is_task_of h s task)))
    by x = cond_none (is_of h s x)

-- the entries tell the completions of a scope
pub completions_told : (L : Limits) (h : History) (s : ℕ) → Legal L h → completions_in (entries h s) ≡ completions h s
unfolding completions_in entries completions
completions_told L h s legal = along L (λ g. completions_in (entries g s) ≡ completions g s) (λ b. refl) (λ g e lawful ok so. step g e lawful so) h legal
  where
    step : (g : History) (e : Event) → Legal L g → completions_in (entries g s) ≡ completions g s → completions_in (entries (followed g e) s) ≡ completions (followed g e) s
    step g e lawful so =
        picks_grow completion_said (λ c. refl) L g e s lawful
        ∙ (ap (λ ds. ds ++ cons_option (option_and_then completion_said (entry_of g s e)) []) so
        ∙ (ap (λ o. completions g s ++ cons_option o []) (completion_shown g s e) ∙ sym (completions_grow L g e s lawful)))

picked_part : (b : Bool) (x : Option LogEntry) → filter_map completion_said (cond b [] (cons_option x [])) ≡ cond b [] (cons_option (option_and_then completion_said x) [])
picked_part true x = refl
picked_part false x = pick_one completion_said x

-- what can be read goes on with the event's completion, unless the scope is cancelled by then
readable_grows : (L : Limits) (h : History) (e : Event) (s : ℕ) → Legal L h → readable_in (entries (followed h e) s) ≡ readable_in (entries h s) ++ cond (is_cancelled h s) [] (cons_option (completion_of (followed h e) s e) [])
unfolding completions_in
readable_grows L h e s legal =
    ap (filter_map completion_said) (parted L h e s legal).before
    ∙ (filter_map-append completion_said (before_mark (entries h s)) (cond (is_cancelled h s) [] (cons_option (entry_of h s e) []))
    ∙ ap (λ ds. readable_in (entries h s) ++ ds) (picked_part (is_cancelled h s) (entry_of h s e) ∙ ap (λ o. cond (is_cancelled h s) [] (cons_option o [])) (completion_shown h s e)))

found_part : (test : Completion → Bool) (b : Bool) (o : Option Completion) → find test (cond b [] (cons_option o [])) ≡ cond b None (find test (cons_option o []))
found_part test true o = refl
found_part test false o = refl

-- what is found of it first
pub find_grows : (test : Completion → Bool) (L : Limits) (h : History) (e : Event) (s : ℕ) → Legal L h
    → find test (readable_in (entries (followed h e) s)) ≡ option_or (find test (readable_in (entries h s))) (cond (is_cancelled h s) None (find test (cons_option (completion_of (followed h e) s e) [])))
find_grows test L h e s legal =
    ap (find test) (readable_grows L h e s legal)
    ∙ (find-append test (readable_in (entries h s)) (cond (is_cancelled h s) [] (cons_option (completion_of (followed h e) s e) []))
    ∙ ap (option_or (find test (readable_in (entries h s)))) (found_part test (is_cancelled h s) (completion_of (followed h e) s e)))

-- ---- states

-- a task that was forked in a scope is one of it
pub is_task : (h : History) (s k : ℕ) (f : Forking) → forking h k ≡ Some f → f.scope ≡ s → is_task_of h s k ≡ true
unfolding is_task_of
is_task h s k f is of = ap (λ (o : Option Forking). option_map_or (λ (x : Forking). x.scope == s) o false) is ∙ eq-eqb f.scope s of

none_earlier : (p q : LogEntry → Bool) (xs : List LogEntry) → list_any p xs ≡ false → list_any p (before_first q xs) ≡ false
none_earlier p q [] none = refl
none_earlier p q (x ∷ xs) none = ap (list_any p) (before_first-cons q x xs) ∙ by (q x) (none_earlier p q xs (or_parts (p x) (list_any p xs) none).1)
  where
    by : (b : Bool) → list_any p (before_first q xs) ≡ false → list_any p (cond b [] (x ∷ before_first q xs)) ≡ false
    by true so = refl
    by false so = rw (or_parts (p x) (list_any p xs) none).0 so

no_end : (k : ℕ) (xs : List LogEntry) → list_any (finishes_task k) xs ≡ false → find (is_end_of k) (filter_map completion_said xs) ≡ None
no_end k [] none = refl
no_end k (entry.Finish task end ∷ xs) none = let parts = or_parts (task == k) (list_any (finishes_task k) xs) none in rw parts.0 (no_end k xs parts.1)
no_end k (x ∷ xs) none = no_end k xs none

-- a task that has not finished has no end in the entries
unended_told : (L : Limits) (h : History) (s k : ℕ) → Legal L h → finished h k ≡ false → find (is_end_of k) (readable_in (entries h s)) ≡ None
unfolding completions_in before_mark
unended_told L h s k legal none =
    no_end k (before_mark (entries h s)) (none_earlier (finishes_task k) is_mark (entries h s) (finished_told L h s k legal ∙ ap (λ b. b && is_task_of h s k) none))

-- the state that the end shows, if there is one
abbrev pub shown_state : Option Completion → State
shown_state o = option_map_or (λ (d : Completion). state_by_end d.end) o Unavailable

or_nothing : {A : Type 0} (o : Option A) (b : Bool) → option_or o (cond b None None) ≡ o
or_nothing None true = refl
or_nothing None false = refl
or_nothing (Some x) b = refl

-- an event that does not end the task completes another, or none
other_end : (h : History) (s k : ℕ) (e : Event) → finishes k e ≡ false → find (is_end_of k) (cons_option (completion_of h s e) []) ≡ None
other_end h s k (Finish task end) other = by (is_task_of h s task)
  where
    by : (b : Bool) → find (is_end_of k) (cons_option (cond b (Some (record { task = task; end = end })) None) []) ≡ None
    by true = ap (λ b. cond b (Some (record { task = task; end = end })) None) other
    by false = refl
other_end h s k _ other = refl

-- what does not end a task gives it no end
pub unended : (k i : ℕ) (e : Event) → finishes k e ≡ false → ending_of k i e ≡ None
unended k i (Finish task end) none = ap (λ b. cond b (Some (record { place = i; end = end })) None) none
unended k i _ none = refl

StatesTold : ℕ → History → Type 0
StatesTold s h = (k : ℕ) (f : Forking) → forking h k ≡ Some f → f.scope ≡ s → state_in (entries h s) k ≡ state h k

module _ (L : Limits) (s : ℕ) (h : History) (e : Event) (legal : Legal L h) where
  state_left : (k : ℕ) → finishes k e ≡ false → state_in (entries (followed h e) s) k ≡ state_in (entries h s) k
  unfolding state_in
  state_left k other =
      ap shown_state (find_grows (is_end_of k) L h e s legal
      ∙ (ap (λ o. option_or (find (is_end_of k) (readable_in (entries h s))) (cond (is_cancelled h s) None o)) (other_end (followed h e) s k e other)
      ∙ or_nothing (find (is_end_of k) (readable_in (entries h s))) (is_cancelled h s)))

  state_old : StatesTold s h → (k : ℕ) (f : Forking) → forking h k ≡ Some f → f.scope ≡ s → finishes k e ≡ false → state_in (entries (followed h e) s) k ≡ state (followed h e) k
  unfolding StatesTold
  state_old so k f is of other = state_left k other ∙ (so k f is of ∙ sym (state_stays L h e k f legal is (unended k (length h.events) e other)))

-- the task that an accepted event ends had no end before, and gets one unless the scope is cancelled
state_now : (L : Limits) (s : ℕ) (h : History) (e : Event) → Legal L h → Accepts L h e → (k : ℕ) (f : Forking) → forking h k ≡ Some f → f.scope ≡ s → finishes k e ≡ true → state_in (entries (followed h e) s) k ≡ state (followed h e) k
unfolding state_in
state_now L s h (Finish task end) legal ok k f is of it =
    let e = Finish task end in
    let g = followed h e in
    let same = eqb-true task k it in
    let unfinished = running_task h k (finisher_passed L h e k it ok).runs in
    let in_it : is_task_of g s task ≡ true = task_grows h e s task ∙ or_left (is_task_of h s task) false (ap (is_task_of h s) same ∙ is_task h s k f is of) in
    let d : Completion = record { task = task; end = end } in
    let found : find (is_end_of k) (cons_option (completion_of g s e) []) ≡ Some d = ap (λ b. find (is_end_of k) (cons_option (cond b (Some d) None) [])) in_it ∙ ap (λ b. cond b (Some d) None) it in
    ap shown_state (find_grows (is_end_of k) L h e s legal ∙ (ap (λ o. option_or o (cond (is_cancelled h s) None (find (is_end_of k) (cons_option (completion_of g s e) [])))) (unended_told L h s k legal unfinished) ∙ ap (cond (is_cancelled h s) None) found))
    ∙ (by (is_cancelled h s)
    ∙ sym (ap (λ n. state (followed h (Finish n end)) k) same ∙ (state_ended L h k end f legal is unfinished ∙ ap (λ n. cond (is_cancelled h n) Unavailable (state_by_end end)) of)))
  where
    by : (b : Bool) → shown_state (cond b None (Some (record { task = task; end = end }))) ≡ cond b Unavailable (state_by_end end)
    by true = refl
    by false = refl
state_now L s h _ legal ok k f is of it = absurd cc

-- the task that an event forks has no end
state_new : (L : Limits) (s : ℕ) (h : History) (e : Event) → Legal L h → (k : ℕ) (f : Forking) → forking (followed h e) k ≡ Some f → k ≡ tasks h + 1 → e ≡ Fork f.actor f.scope f.label → state_in (entries (followed h e) s) k ≡ state (followed h e) k
unfolding state_in
state_new L s h e legal k f is number event =
    let other : finishes k e ≡ false = ap (finishes k) event in
    let unfinished : finished h k ≡ false = false_from_ne_true (finished h k) (λ so. let it = finished_forked L h k legal so in let given = forked_after h k it.forked it.is in absurd (omega (arith, given.1, given.2, number))) in
    let still : finished (followed h e) k ≡ false = finished_grows h e k ∙ (ap (λ b. b || finishes k e) unfinished ∙ other) in
    state_left L s h e legal k other
    ∙ (ap shown_state (unended_told L h s k legal unfinished)
    ∙ sym (state_is (followed h e) k f is ∙ ap (λ (o : Option Ending). option_map_or (state_of (followed h e) f) o Unavailable) (no_ending (followed h e) k still)))

state_step : (L : Limits) (s : ℕ) (h : History) (e : Event) → Legal L h → Accepts L h e → StatesTold s h → StatesTold s (followed h e)
unfolding StatesTold
state_step L s h e legal ok so k f is of =
    elim (forking_split h e k f is) [
      | inl old ↦ by old (finishes k e) refl
      | inr new ↦ state_new L s h e legal k f is new.0 (forking_shown (length h.events) e f new.1).1
    ]
  where
    by : forking h k ≡ Some f → (b : Bool) → finishes k e ≡ b → state_in (entries (followed h e) s) k ≡ state (followed h e) k
    by old true it = state_now L s h e legal ok k f old of it
    by old false it = state_old L s h e legal so k f old of it

state_start : (s : ℕ) (b : Origin) → StatesTold s (record { base = b; events = [] })
unfolding StatesTold forking earliest
state_start s b k f is of = absurd cc

-- the entries tell the state of each task of the scope
pub state_told : (L : Limits) (h : History) (s k : ℕ) → Legal L h → is_task_of h s k ≡ true → state_in (entries h s) k ≡ state h k
unfolding StatesTold
state_told L h s k legal in_it = let it = task_there h s k in_it in along L (StatesTold s) (state_start s) (λ g e lawful ok so. state_step L s g e lawful ok so) h legal k it.forked it.is it.of
