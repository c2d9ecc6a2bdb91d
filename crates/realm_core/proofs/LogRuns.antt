-- Of each task that has ended, the log of its scope has one start and then one finish.
use Rattle.std.proofs.Common.{[], ℕ, ◌++◌, ◌==◌, ◌||◌, ◌∙◌, ◌∷◌, ◌≡◌, Bool, List, None, Option, Some, ap, cond, false, length, option_map, refl, subst, sym, true}
use Rattle.realm_core.specs.{Accepts, Cause, EndValue, Ending, Event, Finish, Forking, History, Legal, Limits, LogEntry, LogValue, LogsShowRuns, Opening, Origin, Start, cancelled_before, cons_option, earliest, ending, ending_of}
use Rattle.realm_core.specs.{entries, entries_next, entry_of, filter, finished, finishes, followed, forking, is_of, is_running, is_task_of, is_waiting, log, mark_of, opening, option_map_or, option_or, rejected, runs_task, said}
use Rattle.realm_core.specs.{stage, started, starts}
use Rattle.realm_core.proofs.Words.{IsForked, along, append-nil, ending_grows, entries_grow, eq-eqb, eqb-true, false_from_ne_true, filter-append, finished_forked, finisher_passed, is_task_stays, no_ending, running_forked}
use Rattle.realm_core.proofs.Words.{stage_is, staged, started_forked, started_grows, starter_passed, unended, waiting_forked}
use Rattle.scope_log.specs.declared.entries.LogEntry.TheVariants as entry

-- ---- what one event adds

-- the entry, if it is of task k's run
abbrev kept_entry : ℕ → Option LogEntry → List LogEntry
kept_entry k None = []
kept_entry k (Some x) = cond (runs_task k x) (x ∷ []) []

kept_two : (k : ℕ) (x : Option LogEntry) (b : Bool) (c : Option Cause) → filter (runs_task k) (cons_option x (cons_option (cond b None (mark_of c)) [])) ≡ kept_entry k x
kept_two k None true c = refl
kept_two k None false None = refl
kept_two k None false (Some c) = refl
kept_two k (Some x) true c = refl
kept_two k (Some x) false None = refl
kept_two k (Some x) false (Some c) = refl

run_grows : (L : Limits) (h : History) (e : Event) (s k : ℕ) → Legal L h → filter (runs_task k) (entries (followed h e) s) ≡ filter (runs_task k) (entries h s) ++ kept_entry k (entry_of h s e)
run_grows L h e s k legal =
    ap (filter (runs_task k)) (entries_grow L h e s legal)
    ∙ (filter-append (runs_task k) (entries h s) (entries_next h e s)
    ∙ ap (λ xs. filter (runs_task k) (entries h s) ++ xs) (kept_two k (entry_of h s e) _ _))

-- the event is the start of task k, or its finish
abbrev added : ℕ → Event → List LogEntry
added k (Start m) = cond (m == k) (entry.Start m ∷ []) []
added k (Finish m end) = cond (m == k) (entry.Finish m end ∷ []) []
added k _ = []

cond_nil : {A : Type 0} (b : Bool) → cond {A = List A} b [] [] ≡ []
cond_nil true = refl
cond_nil false = refl

same_task : (h : History) (s m k : ℕ) (x : LogEntry) → runs_task k x ≡ (m == k) → kept_entry k (cond (is_task_of h s m) (Some x) None) ≡ cond (is_task_of h s k) (cond (m == k) (x ∷ []) []) []
same_task h s m k x is = by (m == k) refl
  where
    by : (b : Bool) → (m == k) ≡ b → kept_entry k (cond (is_task_of h s m) (Some x) None) ≡ cond (is_task_of h s k) (cond (m == k) (x ∷ []) []) []
    by true so = let one : m ≡ k = eqb-true m k so in subst (λ n. kept_entry k (cond (is_task_of h s m) (Some x) None) ≡ cond (is_task_of h s n) (cond (m == k) (x ∷ []) []) []) one (of (is_task_of h s m))
      where
        of : (t : Bool) → kept_entry k (cond t (Some x) None) ≡ cond t (cond (m == k) (x ∷ []) []) []
        of true = ap (λ c. cond c (x ∷ []) []) is
        of false = refl
    by false so = of (is_task_of h s m) ∙ sym (rw so (cond_nil (is_task_of h s k)))
      where
        of : (t : Bool) → kept_entry k (cond t (Some x) None) ≡ []
        of true = ap (λ c. cond c (x ∷ []) []) (is ∙ so)
        of false = refl

or_nothing : (b : Bool) → (b || false) ≡ b
or_nothing true = refl
or_nothing false = refl

nothing_kept : (k : ℕ) (b t : Bool) (o : Option LogEntry) → kept_entry k o ≡ [] → kept_entry k (cond b o None) ≡ cond t [] []
nothing_kept k true t o none = none ∙ sym (cond_nil t)
nothing_kept k false t o none = sym (cond_nil t)

-- what the event adds of the run is its start or its finish, if the task is one of the scope
entry_kept : (h : History) (e : Event) (s k : ℕ) → kept_entry k (entry_of h s e) ≡ cond (is_task_of h s k) (added k e) []
entry_kept h e s k = by e
  where
    by : (x : Event) → kept_entry k (cond (is_of h s x) (said h x) None) ≡ cond (is_task_of h s k) (added k x) []
    by (Start m) = same_task h s m k (entry.Start m) (or_nothing (m == k))
    by (Finish m end) = same_task h s m k (entry.Finish m end) refl
    by x = nothing_kept k (is_of h s x) (is_task_of h s k) (said h x) refl

-- ---- the run so far

-- what there is of it, by whether it was started and how it ended
abbrev so_far : ℕ → Bool → Option Ending → List LogEntry
so_far k b None = cond b (entry.Start k ∷ []) []
so_far k b (Some x) = entry.Start k ∷ entry.Finish k x.end ∷ []

abbrev run_of : History → ℕ → ℕ → List LogEntry
run_of h s k = cond (is_task_of h s k) (so_far k (started h k) (ending h k)) []

-- a task that waits was not started, and has not ended; one that runs was started, and has not ended
waits_by : (c r f b : Bool) → is_waiting (staged c r f b) ≡ true → (f ≡ false) × (b ≡ false)
waits_by false false false false waits = (refl, refl)
waits_by true r f b waits = absurd cc
waits_by false true f b waits = absurd cc
waits_by false false true b waits = absurd cc
waits_by false false false true waits = absurd cc

runs_by : (c r f b : Bool) → is_running (staged c r f b) ≡ true → (f ≡ false) × (b ≡ true)
runs_by false false false true runs = (refl, refl)
runs_by true r f b runs = absurd cc
runs_by false true f b runs = absurd cc
runs_by false false true b runs = absurd cc
runs_by false false false false runs = absurd cc

waiting_so : (h : History) (k : ℕ) → is_waiting (stage h k) ≡ true → (finished h k ≡ false) × (started h k ≡ false)
waiting_so h k waits =
    let it = waiting_forked h k waits in
    waits_by (cancelled_before h it.forked.scope it.forked.place) (rejected h k) (finished h k) (started h k) (ap is_waiting (sym (stage_is h k it.forked it.is)) ∙ waits)

running_so : (h : History) (k : ℕ) → is_running (stage h k) ≡ true → (finished h k ≡ false) × (started h k ≡ true)
running_so h k runs =
    let it = running_forked h k runs in
    runs_by (cancelled_before h it.forked.scope it.forked.place) (rejected h k) (finished h k) (started h k) (ap is_running (sym (stage_is h k it.forked it.is)) ∙ runs)

option_none : {A : Type 0} (o : Option A) → option_or o None ≡ o
option_none None = refl
option_none (Some x) = refl

-- an event that is neither start nor finish of the task adds nothing to it
quiet : (L : Limits) (h : History) (e : Event) (s k : ℕ) → Legal L h → starts k e ≡ false → ending_of k (length h.events) e ≡ None → run_of (followed h e) s k ≡ run_of h s k
quiet L h e s k legal unstarted unended =
    ap (λ b. cond (is_task_of (followed h e) s k) (so_far k b (ending (followed h e) k)) []) (started_grows h e k ∙ (ap (λ b. started h k || b) unstarted ∙ or_nothing (started h k)))
    ∙ (ap (λ o. cond (is_task_of (followed h e) s k) (so_far k (started h k) o) []) (ending_grows h e k ∙ (ap (option_or (ending h k)) unended ∙ option_none (ending h k)))
    ∙ by (forking h k) refl)
  where
    by : (o : Option Forking) → forking h k ≡ o → cond (is_task_of (followed h e) s k) (so_far k (started h k) (ending h k)) [] ≡ cond (is_task_of h s k) (so_far k (started h k) (ending h k)) []
    by (Some f) is = ap (λ b. cond b (so_far k (started h k) (ending h k)) []) (is_task_stays h e s k f is)
    by None is =
        let unstarted : started h k ≡ false = false_from_ne_true (started h k) (λ so. unforked is (started_forked L h k legal so)) in
        let unfinished : finished h k ≡ false = false_from_ne_true (finished h k) (λ so. unforked is (finished_forked L h k legal so)) in
        let nothing : so_far k (started h k) (ending h k) ≡ [] = ap (so_far k (started h k)) (no_ending h k unfinished) ∙ ap (λ b. cond b (entry.Start k ∷ []) []) unstarted in
        ap (λ xs. cond (is_task_of (followed h e) s k) xs []) nothing ∙ (cond_nil (is_task_of (followed h e) s k) ∙ (sym (cond_nil (is_task_of h s k)) ∙ ap (λ xs. cond (is_task_of h s k) xs []) (sym nothing)))
      where
        unforked : forking h k ≡ None → IsForked h k → ⊥
        unforked none it = absurd (cc (none, it.is))

two_conds : (t : Bool) (xs ys : List LogEntry) → cond t xs [] ++ cond t ys [] ≡ cond t (xs ++ ys) []
two_conds true xs ys = refl
two_conds false xs ys = refl

added_none : (k : ℕ) (e : Event) → starts k e ≡ false → finishes k e ≡ false → added k e ≡ []
added_none k (Start m) unstarted unfinished = ap (λ b. cond b (entry.Start m ∷ []) []) unstarted
added_none k (Finish m end) unstarted unfinished = ap (λ b. cond b (entry.Finish m end ∷ []) []) unfinished
added_none k _ unstarted unfinished = refl

event_started : (k : ℕ) (e : Event) → starts k e ≡ true → e ≡ Start k
event_started k (Start m) is = ap Start (eqb-true m k is)
event_started k _ is = absurd cc

event_finished : (k : ℕ) (e : Event) → finishes k e ≡ true → (end : EndValue) × (e ≡ Finish k end)
event_finished k (Finish m end) is = (end, ap (λ n. Finish n end) (eqb-true m k is))
event_finished k _ is = absurd cc

-- the start of the task stands alone
start_adds : (L : Limits) (h : History) (s k : ℕ) → Accepts L h (Start k) → run_of h s k ++ cond (is_task_of h s k) (added k (Start k)) [] ≡ run_of (followed h (Start k)) s k
start_adds L h s k ok =
    let e = Start k in
    let waits = starter_passed L h e k (eq-eqb k k refl) ok in
    let it = waiting_forked h k waits in
    let so = waiting_so h k waits in
    let unended = no_ending h k so.0 in
    let before : so_far k (started h k) (ending h k) ≡ [] = ap (so_far k (started h k)) unended ∙ ap (λ b. cond b (entry.Start k ∷ []) []) so.1 in
    let begun : started (followed h e) k ≡ true = started_grows h e k ∙ (ap (λ b. b || starts k e) so.1 ∙ eq-eqb k k refl) in
    let still : ending (followed h e) k ≡ None = ending_grows h e k ∙ ap (λ o. option_or o None) unended in
    let after : so_far k (started (followed h e) k) (ending (followed h e) k) ≡ entry.Start k ∷ [] = ap (so_far k (started (followed h e) k)) still ∙ ap (λ b. cond b (entry.Start k ∷ []) []) begun in
    two_conds (is_task_of h s k) (so_far k (started h k) (ending h k)) (added k e)
    ∙ (ap (λ xs. cond (is_task_of h s k) (xs ++ added k e) []) before
    ∙ (ap (λ b. cond (is_task_of h s k) (cond b (entry.Start k ∷ []) []) []) (eq-eqb k k refl)
    ∙ (ap (λ xs. cond (is_task_of h s k) xs []) (sym after)
    ∙ ap (λ b. cond b (so_far k (started (followed h e) k) (ending (followed h e) k)) []) (sym (is_task_stays h e s k it.forked it.is)))))

-- its finish comes after its start
finish_adds : (L : Limits) (h : History) (s k : ℕ) (end : EndValue) → Accepts L h (Finish k end) → run_of h s k ++ cond (is_task_of h s k) (added k (Finish k end)) [] ≡ run_of (followed h (Finish k end)) s k
finish_adds L h s k end ok =
    let e = Finish k end in
    let runs = (finisher_passed L h e k (eq-eqb k k refl) ok).runs in
    let it = running_forked h k runs in
    let so = running_so h k runs in
    let unended = no_ending h k so.0 in
    let x : Ending = record { place = length h.events; end = end } in
    let before : so_far k (started h k) (ending h k) ≡ entry.Start k ∷ [] = ap (so_far k (started h k)) unended ∙ ap (λ b. cond b (entry.Start k ∷ []) []) so.1 in
    let ended : ending (followed h e) k ≡ Some x = ending_grows h e k ∙ (ap (λ o. option_or o (ending_of k (length h.events) e)) unended ∙ ap (λ b. cond b (Some x) None) (eq-eqb k k refl)) in
    let after : so_far k (started (followed h e) k) (ending (followed h e) k) ≡ entry.Start k ∷ entry.Finish k end ∷ [] = ap (so_far k (started (followed h e) k)) ended in
    two_conds (is_task_of h s k) (so_far k (started h k) (ending h k)) (added k e)
    ∙ (ap (λ xs. cond (is_task_of h s k) (xs ++ added k e) []) before
    ∙ (ap (λ b. cond (is_task_of h s k) (entry.Start k ∷ cond b (entry.Finish k end ∷ []) []) []) (eq-eqb k k refl)
    ∙ (ap (λ xs. cond (is_task_of h s k) xs []) (sym after)
    ∙ ap (λ b. cond b (so_far k (started (followed h e) k) (ending (followed h e) k)) []) (sym (is_task_stays h e s k it.forked it.is)))))

run_goes_on : (L : Limits) (h : History) (e : Event) (s k : ℕ) → Legal L h → Accepts L h e → run_of h s k ++ cond (is_task_of h s k) (added k e) [] ≡ run_of (followed h e) s k
run_goes_on L h e s k legal ok = by (starts k e) (finishes k e) refl refl
  where
    by : (b c : Bool) → starts k e ≡ b → finishes k e ≡ c → run_of h s k ++ cond (is_task_of h s k) (added k e) [] ≡ run_of (followed h e) s k
    by true c is also =
        let same = event_started k e is in
        subst (λ x. run_of h s k ++ cond (is_task_of h s k) (added k x) [] ≡ run_of (followed h x) s k) (sym same) (start_adds L h s k (subst (λ x. Accepts L h x) same ok))
    by false true is also =
        let same = event_finished k e also in
        subst (λ x. run_of h s k ++ cond (is_task_of h s k) (added k x) [] ≡ run_of (followed h x) s k) (sym same.1) (finish_adds L h s k same.0 (subst (λ x. Accepts L h x) same.1 ok))
    by false false is also =
        ap (λ xs. run_of h s k ++ cond (is_task_of h s k) xs []) (added_none k e is also)
        ∙ (ap (λ xs. run_of h s k ++ xs) (cond_nil (is_task_of h s k))
        ∙ (append-nil (run_of h s k) ∙ sym (quiet L h e s k legal is (unended k (length h.events) e also))))

-- the log has what there is of the run
run_told : (L : Limits) (h : History) (s k : ℕ) → Legal L h → filter (runs_task k) (entries h s) ≡ run_of h s k
unfolding entries started ending earliest
run_told L h s k legal = along L (λ g. filter (runs_task k) (entries g s) ≡ run_of g s k) start step h legal
  where
    start : (b : Origin) → filter (runs_task k) (entries (record { base = b; events = [] }) s) ≡ run_of (record { base = b; events = [] }) s k
    start b = sym (cond_nil (is_task_of (record { base = b; events = [] }) s k))

    step : (g : History) (e : Event) → Legal L g → Accepts L g e → filter (runs_task k) (entries g s) ≡ run_of g s k → filter (runs_task k) (entries (followed g e) s) ≡ run_of (followed g e) s k
    step g e lawful ok so =
        run_grows L g e s k lawful
        ∙ (ap (λ xs. xs ++ kept_entry k (entry_of g s e)) so
        ∙ (ap (λ xs. run_of g s k ++ xs) (entry_kept g e s k) ∙ run_goes_on L g e s k lawful ok))

logged : (h : History) (s : ℕ) (l : LogValue) → log h s ≡ Some l → entries h s ≡ l.entries
unfolding log
logged h s l is = by (opening h s) is
  where
    by : (o : Option Opening) → option_map (λ (o : Opening). record { scope = s; policy = o.policy; expiry = o.options.expiry; entries = entries h s }) o ≡ Some l → entries h s ≡ l.entries
    by None there = absurd cc
    by (Some o) there = ap (λ (m : Option LogValue). option_map_or (λ (v : LogValue). v.entries) m []) there

pub runs_shown : LogsShowRuns
runs_shown L h s k l x legal is in_it ended =
    ap (filter (runs_task k)) (sym (logged h s l is))
    ∙ (run_told L h s k legal
    ∙ (ap (λ b. cond b (so_far k (started h k) (ending h k)) []) in_it ∙ ap (so_far k (started h k)) ended))
