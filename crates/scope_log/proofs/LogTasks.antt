-- The tasks in the entries of a scope: which there are, and how far they came.
use Rattle.std.proofs.Common.{[], ℕ, ◌&&◌, ◌+◌, ◌==◌, ◌||◌, ◌∙◌, ◌≡◌, ◌≢◌, Bool, None, Option, Some, ap, arith, cond, false, inl, inr, length, refl, subst, sym, true}
use Rattle.std.proofs.lemmas.Bool.{or_right}
use Rattle.scope_log.specs.{Accepts, Cause, Event, Finish, Fork, Forking, History, Legal, Limits, LogEntry, Origin, Reject, Start, Words.stage, Words.tasks, after_mark, cancelled_before, cons_option, earliest, entries, entry_of}
use Rattle.scope_log.specs.{finished, finishes, finishes_task, followed, forking, forks_task, is_cancelled, is_mark, is_never_in, is_of, is_task_of, list_any, option_map_or, rejected, rejects, rejects_task, said, stage_in}
use Rattle.scope_log.specs.{started, starts, starts_task}
use Rattle.scope_log.proofs.Words.{IsForked, IsOpened, along, cancelled_before_stays, cancelled_by_now, eq-eqb, eqb-true, finished_forked, finished_grows, finisher_passed, fork_passed, forked_after, forked_opened, forking_grows}
use Rattle.scope_log.proofs.Words.{forking_same, forking_shown, forking_split, forking_within, is_task_stays, list_any-append, ne_eqb, or_cases, rejected_forked, rejected_grows, rejecter_passed, running_forked, same_staged}
use Rattle.scope_log.proofs.Words.{stage_is, started_forked, started_grows, starter_passed, task_there, waiting_forked}
use Rattle.scope_log.proofs.{FirstParts.after_first_none, LogMarks.and_false, LogMarks.any_grows, LogMarks.marked, LogMarks.parted, LogMarks.tells, LogMarks.tells_by}
use Rattle.scope_log.specs.declared.entries.LogEntry.TheVariants as entry

-- ---- which tasks there are

-- the event, the next after h, forks task k in scope s
abbrev pub forks_next : History → ℕ → ℕ → Event → Bool
forks_next h s k (Fork actor scope label) = (scope == s) && (tasks h + 1 == k)
forks_next h s k _ = false

fork_told : (h : History) (s k : ℕ) (e : Event) → tells (forks_task k) h s e ≡ forks_next h s k e
fork_told h s k e = tells_by (forks_task k) h s e ∙ by e
  where
    by : (e : Event) → (is_of h s e && option_map_or (forks_task k) (said h e) false) ≡ forks_next h s k e
    by (Fork actor scope label) = refl
    by e = and_false (is_of h s e)

-- a number that was given is not the next
not_next : (h : History) (s k : ℕ) (f : Forking) (e : Event) → forking h k ≡ Some f → forks_next h s k e ≡ false
not_next h s k f (Fork actor scope label) is =
    let number = forked_after h k f is in
    let other : tasks h + 1 ≢ k = λ same. omega (arith, same, number.1, number.2) in
    ap (λ b. (scope == s) && b) (ne_eqb (tasks h + 1) k other) ∙ and_false (scope == s)
not_next h s k f _ is = refl

or_false : (b : Bool) → b ≡ (b || false)
or_false true = refl
or_false false = refl

-- whether a task is one of a scope goes on so
pub task_grows : (h : History) (e : Event) (s k : ℕ) → is_task_of (followed h e) s k ≡ (is_task_of h s k || forks_next h s k e)
unfolding is_task_of
task_grows h e s k = by (forking h k) refl
  where
    new : (a : ℕ) (scope : ℕ) (label : _) (b : Bool) → option_map_or (λ (f : Forking). f.scope == s) (cond b (Some (record { place = length h.events; actor = a; scope = scope; label = label })) None) false ≡ ((scope == s) && b)
    new a scope label true = and_true (scope == s)
      where
        and_true : (b : Bool) → b ≡ (b && true)
        and_true true = refl
        and_true false = refl
    new a scope label false = sym (and_false (scope == s))

    of_event : (x : Event) → forking h k ≡ None → is_task_of (followed h x) s k ≡ (is_task_of h s k || forks_next h s k x)
    of_event (Fork actor scope label) none = rw (forking_grows h (Fork actor scope label) k) (rw none (new actor scope label (tasks h + 1 == k)))
    of_event x none = rw (forking_same h x k refl) (or_false (option_map_or (λ (f : Forking). f.scope == s) (forking h k) false))

    by : (o : Option Forking) → forking h k ≡ o → is_task_of (followed h e) s k ≡ (is_task_of h s k || forks_next h s k e)
    by None is = of_event e is
    by (Some f) is = is_task_stays h e s k f is ∙ (or_false (is_task_of h s k) ∙ ap (λ b. is_task_of h s k || b) (sym (not_next h s k f e is)))

-- the entries fork a task if it is one of the scope
pub forked_told : (L : Limits) (h : History) (s k : ℕ) → Legal L h → list_any (forks_task k) (entries h s) ≡ is_task_of h s k
unfolding entries is_task_of forking earliest
forked_told L h s k legal = along L (λ g. list_any (forks_task k) (entries g s) ≡ is_task_of g s k) start (λ g e lawful ok so. step g e lawful so) h legal
  where
    start : (b : Origin) → list_any (forks_task k) (entries (record { base = b; events = [] }) s) ≡ is_task_of (record { base = b; events = [] }) s k
    start b = refl

    step : (g : History) (e : Event) → Legal L g → list_any (forks_task k) (entries g s) ≡ is_task_of g s k → list_any (forks_task k) (entries (followed g e) s) ≡ is_task_of (followed g e) s k
    step g e lawful so =
        any_grows (forks_task k) (λ c. refl) L g e s lawful
        ∙ (ap (λ b. b || tells (forks_task k) g s e) so
        ∙ (ap (λ b. is_task_of g s k || b) (fork_told g s k e) ∙ sym (task_grows g e s k)))

-- ---- what was done with them

both_or : (a b t : Bool) → ((a && t) || (b && t)) ≡ ((a || b) && t)
both_or true b true = refl
both_or true b false = and_false b
both_or false b t = refl

same_task : (h : History) (s m k : ℕ) → (is_task_of h s m && (m == k)) ≡ ((m == k) && is_task_of h s k)
same_task h s m k = by (m == k) refl
  where
    by : (b : Bool) → (m == k) ≡ b → (is_task_of h s m && b) ≡ (b && is_task_of h s k)
    by true is = ap (λ n. is_task_of h s n && true) (eqb-true m k is) ∙ and_true (is_task_of h s k)
      where
        and_true : (b : Bool) → (b && true) ≡ b
        and_true true = refl
        and_true false = refl
    by false is = and_false (is_task_of h s m)

-- what marks a task in the history, and what shows that in the entries
module _ (marks : ℕ → Event → Bool) (marked_so : History → ℕ → Bool) (shows : ℕ → LogEntry → Bool) (plain : (k : ℕ) (c : Cause) → shows k (entry.Cancelled c) ≡ false)
    (grows : (h : History) (e : Event) (k : ℕ) → marked_so (followed h e) k ≡ (marked_so h k || marks k e)) (start : (b : Origin) (k : ℕ) → marked_so (record { base = b; events = [] }) k ≡ false)
    (there : (L : Limits) (h : History) (k : ℕ) → Legal L h → marked_so h k ≡ true → IsForked h k) (passed : (L : Limits) (h : History) (e : Event) (k : ℕ) → marks k e ≡ true → Accepts L h e → IsForked h k)
    (told : (h : History) (s k : ℕ) (e : Event) → tells (shows k) h s e ≡ (marks k e && is_task_of h s k)) where
  shown_stays : (L : Limits) (h : History) (e : Event) (s k : ℕ) → Legal L h → Accepts L h e → (marked_so (followed h e) k && is_task_of h s k) ≡ (marked_so (followed h e) k && is_task_of (followed h e) s k)
  shown_stays L h e s k legal ok = by (marked_so (followed h e) k) refl
    where
      by : (b : Bool) → marked_so (followed h e) k ≡ b → (b && is_task_of h s k) ≡ (b && is_task_of (followed h e) s k)
      by true is =
          let it : IsForked h k = elim (or_cases (marked_so h k) (marks k e) (sym (grows h e k) ∙ is)) [ inl old ↦ there L h k legal old | inr now ↦ passed L h e k now ok ] in
          sym (is_task_stays h e s k it.forked it.is)
      by false is = refl

  shown_told : (L : Limits) (h : History) (s k : ℕ) → Legal L h → list_any (shows k) (entries h s) ≡ (marked_so h k && is_task_of h s k)
  unfolding entries
  shown_told L h s k legal = along L (λ g. list_any (shows k) (entries g s) ≡ (marked_so g k && is_task_of g s k)) first (λ g e lawful ok so. step g e lawful ok so) h legal
    where
      first : (b : Origin) → list_any (shows k) (entries (record { base = b; events = [] }) s) ≡ (marked_so (record { base = b; events = [] }) k && is_task_of (record { base = b; events = [] }) s k)
      first b = sym (ap (λ x. x && is_task_of (record { base = b; events = [] }) s k) (start b k))

      step : (g : History) (e : Event) → Legal L g → Accepts L g e → list_any (shows k) (entries g s) ≡ (marked_so g k && is_task_of g s k)
          → list_any (shows k) (entries (followed g e) s) ≡ (marked_so (followed g e) k && is_task_of (followed g e) s k)
      step g e lawful ok so =
          any_grows (shows k) (plain k) L g e s lawful
          ∙ (ap (λ b. b || tells (shows k) g s e) so
          ∙ (ap (λ b. (marked_so g k && is_task_of g s k) || b) (told g s k e)
          ∙ (both_or (marked_so g k) (marks k e) (is_task_of g s k)
          ∙ (ap (λ b. b && is_task_of g s k) (sym (grows g e k)) ∙ shown_stays L g e s k lawful ok))))

-- what an event says of a task, the log of its scope says
task_said : (h : History) (s k : ℕ) (e : Event) → ((is_of h s e && option_map_or (rejects_task k) (said h e) false) ≡ (rejects k e && is_task_of h s k))
    × ((is_of h s e && option_map_or (starts_task k) (said h e) false) ≡ (starts k e && is_task_of h s k))
    × ((is_of h s e && option_map_or (finishes_task k) (said h e) false) ≡ (finishes k e && is_task_of h s k))
task_said h s k (Reject task) = (same_task h s task k, and_false (is_task_of h s task), and_false (is_task_of h s task))
task_said h s k (Start task) = (and_false (is_task_of h s task), same_task h s task k, and_false (is_task_of h s task))
task_said h s k (Finish task end) = (and_false (is_task_of h s task), and_false (is_task_of h s task), same_task h s task k)
task_said h s k e = (and_false (is_of h s e), and_false (is_of h s e), and_false (is_of h s e))

reject_told : (h : History) (s k : ℕ) (e : Event) → tells (rejects_task k) h s e ≡ (rejects k e && is_task_of h s k)
reject_told h s k e = tells_by (rejects_task k) h s e ∙ (task_said h s k e).0

start_told : (h : History) (s k : ℕ) (e : Event) → tells (starts_task k) h s e ≡ (starts k e && is_task_of h s k)
start_told h s k e = tells_by (starts_task k) h s e ∙ (task_said h s k e).1

finish_told : (h : History) (s k : ℕ) (e : Event) → tells (finishes_task k) h s e ≡ (finishes k e && is_task_of h s k)
finish_told h s k e = tells_by (finishes_task k) h s e ∙ (task_said h s k e).2

-- the entries reject a task if it is one of the scope and was rejected
pub rejected_told : (L : Limits) (h : History) (s k : ℕ) → Legal L h → list_any (rejects_task k) (entries h s) ≡ (rejected h k && is_task_of h s k)
unfolding rejected
rejected_told = shown_told rejects rejected rejects_task (λ k c. refl) rejected_grows (λ b k. refl) rejected_forked (λ L h e k it ok. waiting_forked h k (rejecter_passed L h e k it ok)) reject_told

-- they start it if it was started
pub started_told : (L : Limits) (h : History) (s k : ℕ) → Legal L h → list_any (starts_task k) (entries h s) ≡ (started h k && is_task_of h s k)
unfolding started
started_told = shown_told starts started starts_task (λ k c. refl) started_grows (λ b k. refl) started_forked (λ L h e k it ok. waiting_forked h k (starter_passed L h e k it ok)) start_told

-- and end it if it has finished
pub finished_told : (L : Limits) (h : History) (s k : ℕ) → Legal L h → list_any (finishes_task k) (entries h s) ≡ (finished h k && is_task_of h s k)
unfolding finished
finished_told = shown_told finishes finished finishes_task (λ k c. refl) finished_grows (λ b k. refl) finished_forked (λ L h e k it ok. running_forked h k (finisher_passed L h e k it ok).runs) finish_told

-- ---- forks after the mark

-- what is asked of the entry, after the mark
any_after : (p : LogEntry → Bool) (h : History) (s : ℕ) (e : Event) (b : Bool) → list_any p (cond b (cons_option (entry_of h s e) []) []) ≡ (b && tells p h s e)
any_after p h s e true = by (entry_of h s e)
  where
    by : (o : Option LogEntry) → list_any p (cons_option o []) ≡ option_map_or p o false
    by None = refl
    by (Some x) = sym (or_false (p x))
any_after p h s e false = refl

after_grows : (p : LogEntry → Bool) (L : Limits) (h : History) (e : Event) (s : ℕ) → Legal L h → list_any p (after_mark (entries (followed h e) s)) ≡ (list_any p (after_mark (entries h s)) || (is_cancelled h s && tells p h s e))
after_grows p L h e s legal =
    ap (list_any p) (parted L h e s legal).after
    ∙ (list_any-append p (after_mark (entries h s)) (cond (is_cancelled h s) (cons_option (entry_of h s e) []) [])
    ∙ ap (λ b. list_any p (after_mark (entries h s)) || b) (any_after p h s e (is_cancelled h s)))

-- if a scope isn't cancelled, nothing stands after its mark
none_after : (p : LogEntry → Bool) (L : Limits) (h : History) (s : ℕ) → Legal L h → is_cancelled h s ≡ false → list_any p (after_mark (entries h s)) ≡ false
unfolding after_mark
none_after p L h s legal live = ap (list_any p) (after_first_none is_mark (entries h s) (marked L h s legal ∙ live))

LateForks : ℕ → History → Type 0
LateForks s h = (k : ℕ) (f : Forking) → forking h k ≡ Some f → f.scope ≡ s → list_any (forks_task k) (after_mark (entries h s)) ≡ cancelled_before h s f.place

forks_it : (h : History) (s k : ℕ) (f : Forking) → k ≡ tasks h + 1 → f.scope ≡ s → forks_next h s k (Fork f.actor f.scope f.label) ≡ true
forks_it h s k f number of = ap (λ b. b && (tasks h + 1 == k)) (eq-eqb f.scope s of) ∙ eq-eqb (tasks h + 1) k (sym number)

late_old : (L : Limits) (s : ℕ) (h : History) (e : Event) → Legal L h → LateForks s h → (k : ℕ) (f : Forking) → forking h k ≡ Some f → f.scope ≡ s
    → list_any (forks_task k) (after_mark (entries (followed h e) s)) ≡ cancelled_before (followed h e) s f.place
unfolding LateForks
late_old L s h e legal so k f is of =
    let opened = subst (IsOpened h) of (forked_opened L h k f legal is) in
    let within = forking_within h k f is in
    after_grows (forks_task k) L h e s legal
    ∙ (ap (λ b. list_any (forks_task k) (after_mark (entries h s)) || (is_cancelled h s && b)) (fork_told h s k e ∙ not_next h s k f e is)
    ∙ (ap (λ b. list_any (forks_task k) (after_mark (entries h s)) || b) (and_false (is_cancelled h s))
    ∙ (sym (or_false (list_any (forks_task k) (after_mark (entries h s))))
    ∙ (so k f is of ∙ sym (cancelled_before_stays L h e s f.place legal opened (omega (arith, within)))))))

late_new : (L : Limits) (s : ℕ) (h : History) (e : Event) → Legal L h → Accepts L h e → (k : ℕ) (f : Forking) → k ≡ tasks h + 1 → e ≡ Fork f.actor f.scope f.label → f.place ≡ length h.events → f.scope ≡ s
    → list_any (forks_task k) (after_mark (entries (followed h e) s)) ≡ cancelled_before (followed h e) s f.place
late_new L s h e legal ok k f number event place of =
    let owner = (fork_passed L h f.actor f.scope f.label (subst (λ (x : Event). Accepts L h x) event ok)).owner in
    let opened : IsOpened h s = subst (IsOpened h) of (record { opened = owner.opened; is = owner.is }) in
    let told : tells (forks_task k) h s e ≡ true = fork_told h s k e ∙ (ap (forks_next h s k) event ∙ forks_it h s k f number of) in
    after_grows (forks_task k) L h e s legal
    ∙ (ap (λ b. list_any (forks_task k) (after_mark (entries h s)) || (is_cancelled h s && b)) told
    ∙ (by (is_cancelled h s) refl
    ∙ sym (ap (cancelled_before (followed h e) s) place ∙ (cancelled_before_stays L h e s (length h.events) legal opened (omega arith) ∙ cancelled_by_now h s opened))))
  where
    by : (b : Bool) → is_cancelled h s ≡ b → (list_any (forks_task k) (after_mark (entries h s)) || (b && true)) ≡ b
    by true is = or_right (list_any (forks_task k) (after_mark (entries h s))) true refl
    by false is = ap (λ b. b || false) (none_after (forks_task k) L h s legal is)

late_step : (L : Limits) (s : ℕ) (h : History) (e : Event) → Legal L h → Accepts L h e → LateForks s h → LateForks s (followed h e)
unfolding LateForks
late_step L s h e legal ok so k f is of =
    elim (forking_split h e k f is) [
      | inl old ↦ late_old L s h e legal so k f old of
      | inr new ↦ let shown = forking_shown (length h.events) e f new.1 in late_new L s h e legal ok k f new.0 shown.1 shown.0 of
    ]

late_start : (s : ℕ) (b : Origin) → LateForks s (record { base = b; events = [] })
unfolding LateForks forking earliest
late_start s b k f is of = absurd cc

-- the fork of a task stands after the mark if its scope was cancelled before it
pub late_told : (L : Limits) (h : History) (s k : ℕ) (f : Forking) → Legal L h → forking h k ≡ Some f → f.scope ≡ s → list_any (forks_task k) (after_mark (entries h s)) ≡ cancelled_before h s f.place
unfolding LateForks
late_told L h s k f legal is of = along L (LateForks s) (late_start s) (λ g e lawful ok so. late_step L s g e lawful ok so) h legal k f is of

-- ---- stages

and_so : (a b : Bool) → b ≡ true → (a && b) ≡ a
and_so true b is = is
and_so false b is = refl

-- the entries tell the stage of each task of the scope
pub stage_told : (L : Limits) (h : History) (s k : ℕ) → Legal L h → is_task_of h s k ≡ true → stage_in (entries h s) k ≡ stage h k
unfolding stage_in is_never_in
stage_told L h s k legal in_it =
    let it = task_there h s k in_it in
    let f = it.forked in
    rw (forked_told L h s k legal ∙ in_it)
    (same_staged _ _ _ _ _ _ _ _
    (late_told L h s k f legal it.is it.of ∙ ap (λ n. cancelled_before h n f.place) (sym it.of))
    (rejected_told L h s k legal ∙ and_so (rejected h k) (is_task_of h s k) in_it)
    (finished_told L h s k legal ∙ and_so (finished h k) (is_task_of h s k) in_it)
    (started_told L h s k legal ∙ and_so (started h k) (is_task_of h s k) in_it)
    ∙ sym (stage_is h k f it.is))
