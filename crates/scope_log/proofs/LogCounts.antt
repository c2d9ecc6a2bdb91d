-- The tasks in the entries of a scope, in order, and what is counted and listed of them.
use Rattle.std.proofs.Common.{[], ℕ, ◌&&◌, ◌++◌, ◌+◌, ◌<◌, ◌==◌, ◌||◌, ◌∙◌, ◌∷◌, ◌≡◌, Bool, List, None, Option, Some, ap, arith, cond, count_by, false, not, refl, suc, sym, true, zero, zero-add}
use Rattle.scope_log.specs.{Event, Finished, Fork, Forking, History, Legal, Limits, Never, Running, Stage, Waiting, Words.counts, Words.stage, Words.state, Words.tasks, cons_option, counts_in, entries, entry_of, filter, followed}
use Rattle.scope_log.specs.{forked_count, is_at, is_at_in, is_cancelled, is_fork, is_of, is_settled, is_stage, is_task_of, is_unsettled_in, list_any, listing_by, option_and_then, option_map_or, range_with_len, ready, ready_in}
use Rattle.scope_log.specs.{said, settled, settled_in, state_in, task_forked, task_numbers, tasks_in, tasks_of, values_by}
use Rattle.scope_log.proofs.Words.{along, append-nil, count_by-cons, count_push, filter-append, listing_same, ne_eqb, next_forking, range_push, values_same}
use Rattle.scope_log.proofs.{CountSteps.same_counts, LogMarks.and_false, LogMarks.cond_none, LogMarks.gives_by, LogMarks.marked, LogMarks.picks_grow, LogStates.state_told, LogTasks.forks_next, LogTasks.stage_told}
use Rattle.scope_log.proofs.{LogTasks.task_grows}

-- ---- the tasks in order

-- the number that the event, the next after h, gives a task of scope s
abbrev number_given : History → ℕ → Event → Option ℕ
number_given h s (Fork actor scope label) = cond (scope == s) (Some (tasks h + 1)) None
number_given h s _ = None

number_shown : (h : History) (s : ℕ) (e : Event) → option_and_then task_forked (entry_of h s e) ≡ number_given h s e
number_shown h s e = gives_by task_forked h s e ∙ by e
  where
    by : (x : Event) → cond (is_of h s x) (option_and_then task_forked (said h x)) None ≡ number_given h s x
    by (Fork actor scope label) = refl
    by x = cond_none (is_of h s x)

filter_same : (p q : ℕ → Bool) (a n : ℕ) → ((k : ℕ) → k < a + n → p k ≡ q k) → filter p (range_with_len a n) ≡ filter q (range_with_len a n)
filter_same p q a zero same = refl
filter_same p q a (suc n) same =
    let rest = filter_same p q (a + 1) n (λ k below. same k (omega (arith, below))) in
    rw (same a (omega arith)) (ap (λ xs. cond (q a) (a ∷ xs) xs) rest)

or_false : (b : Bool) → (b || false) ≡ b
or_false true = refl
or_false false = refl

task_still : (h : History) (e : Event) (s k : ℕ) → forks_next h s k e ≡ false → is_task_of (followed h e) s k ≡ is_task_of h s k
task_still h e s k other = task_grows h e s k ∙ (ap (λ b. is_task_of h s k || b) other ∙ or_false (is_task_of h s k))

kept_order : (h : History) (e : Event) (s : ℕ) → is_fork e ≡ false → ((k : ℕ) → forks_next h s k e ≡ false) → filter (is_task_of (followed h e) s) (task_numbers (followed h e)) ≡ filter (is_task_of h s) (task_numbers h)
kept_order h e s other unnamed =
    let pushed = count_push is_fork h.events e in
    let none : cond {A = ℕ} (is_fork e) 1 0 ≡ 0 = ap (λ b. cond {A = ℕ} b 1 0) other in
    let count : forked_count (followed h e) ≡ forked_count h = omega (arith, pushed, none) in
    ap (λ n. filter (is_task_of (followed h e) s) (range_with_len (h.base.tasks + 1) n)) count
    ∙ filter_same (is_task_of (followed h e) s) (is_task_of h s) (h.base.tasks + 1) (forked_count h) (λ k below. task_still h e s k (unnamed k))

last_one : (p : ℕ → Bool) (k : ℕ) (b : Bool) → p k ≡ b → filter p (k ∷ []) ≡ cons_option (cond b (Some k) None) []
last_one p k true is = rw is refl
last_one p k false is = rw is refl

-- the task that a fork gives a number is one of its scope
in_its_scope : (h : History) (a scope s : ℕ) (label : _) → is_task_of (followed h (Fork a scope label)) s (tasks h + 1) ≡ (scope == s)
unfolding is_task_of
in_its_scope h a scope s label = ap (λ (o : Option Forking). option_map_or (λ (f : Forking). f.scope == s) o false) (next_forking h a scope label)

-- the tasks of a scope go on with the number that the event gives
tasks_grow : (L : Limits) (h : History) (e : Event) (s : ℕ) → Legal L h → filter (is_task_of (followed h e) s) (task_numbers (followed h e)) ≡ filter (is_task_of h s) (task_numbers h) ++ cons_option (number_given h s e) []
tasks_grow L h (Fork actor scope label) s legal =
    let e = Fork actor scope label in
    let g = followed h e in
    let first = h.base.tasks + 1 in
    let pushed = count_push is_fork h.events e in
    let count : forked_count g ≡ forked_count h + 1 = omega (arith, pushed) in
    let last : first + forked_count h ≡ tasks h + 1 = omega arith in
    let old = filter_same (is_task_of g s) (is_task_of h s) first (forked_count h) (λ k below. task_still h e s k (ap (λ b. (scope == s) && b) (ne_eqb (tasks h + 1) k (λ same. omega (arith, same, below))) ∙ and_false (scope == s))) in
    ap (λ n. filter (is_task_of g s) (range_with_len first n)) count
    ∙ (ap (filter (is_task_of g s)) (range_push first (forked_count h))
    ∙ (filter-append (is_task_of g s) (range_with_len first (forked_count h)) ((first + forked_count h) ∷ [])
    ∙ (ap (λ xs. xs ++ filter (is_task_of g s) ((first + forked_count h) ∷ [])) old
    ∙ ap (λ xs. filter (is_task_of h s) (task_numbers h) ++ xs) (ap (λ k. filter (is_task_of g s) (k ∷ [])) last ∙ last_one (is_task_of g s) (tasks h + 1) (scope == s) (in_its_scope h actor scope s label)))))
tasks_grow L h e s legal = kept_order h e s refl (λ k. refl) ∙ sym (append-nil (filter (is_task_of h s) (task_numbers h)))

-- the entries tell the tasks of a scope, in fork order
pub tasks_told : (L : Limits) (h : History) (s : ℕ) → Legal L h → tasks_in (entries h s) ≡ filter (is_task_of h s) (task_numbers h)
unfolding tasks_in entries
tasks_told L h s legal = along L (λ g. tasks_in (entries g s) ≡ filter (is_task_of g s) (task_numbers g)) (λ b. refl) (λ g e lawful ok so. step g e lawful so) h legal
  where
    step : (g : History) (e : Event) → Legal L g → tasks_in (entries g s) ≡ filter (is_task_of g s) (task_numbers g) → tasks_in (entries (followed g e) s) ≡ filter (is_task_of (followed g e) s) (task_numbers (followed g e))
    step g e lawful so =
        picks_grow task_forked (λ c. refl) L g e s lawful
        ∙ (ap (λ ks. ks ++ cons_option (option_and_then task_forked (entry_of g s e)) []) so
        ∙ (ap (λ o. filter (is_task_of g s) (task_numbers g) ++ cons_option o []) (number_shown g s e) ∙ sym (tasks_grow L g e s lawful)))

-- ---- what is asked of the tasks that pass a test can be asked of all

module _ (q : ℕ → Bool) where
  counted : (p r : ℕ → Bool) → ((k : ℕ) → q k ≡ true → p k ≡ r k) → (ns : List ℕ) → count_by p (filter q ns) ≡ count_by (λ k. q k && r k) ns
  counted p r same [] = refl
  counted p r same (n ∷ ns) = by (q n) refl (counted p r same ns) ∙ sym (count_by-cons (λ k. q k && r k) n ns)
    where
      by : (b : Bool) → q n ≡ b → count_by p (filter q ns) ≡ count_by (λ k. q k && r k) ns → count_by p (cond b (n ∷ filter q ns) (filter q ns)) ≡ cond (b && r n) 1 0 + count_by (λ k. q k && r k) ns
      by true is so = count_by-cons p n (filter q ns) ∙ (ap (λ b. cond {A = ℕ} b 1 0 + count_by p (filter q ns)) (same n is) ∙ ap (λ m. cond {A = ℕ} (r n) 1 0 + m) so)
      by false is so = so ∙ sym (zero-add (count_by (λ k. q k && r k) ns))

  asked : (p r : ℕ → Bool) → ((k : ℕ) → q k ≡ true → p k ≡ r k) → (ns : List ℕ) → list_any p (filter q ns) ≡ list_any (λ k. q k && r k) ns
  asked p r same [] = refl
  asked p r same (n ∷ ns) = by (q n) refl (asked p r same ns)
    where
      by : (b : Bool) → q n ≡ b → list_any p (filter q ns) ≡ list_any (λ k. q k && r k) ns → list_any p (cond b (n ∷ filter q ns) (filter q ns)) ≡ ((b && r n) || list_any (λ k. q k && r k) ns)
      by true is so = rw (same n is) (ap (λ b. r n || b) so)
      by false is so = so

-- ---- counts, and what waits or runs

tally_told : (L : Limits) (h : History) (s : ℕ) (x : Stage) → Legal L h → count_by (is_at_in (entries h s) x) (tasks_in (entries h s)) ≡ count_by (is_at h s x) (task_numbers h)
tally_told L h s x legal =
    ap (count_by (is_at_in (entries h s) x)) (tasks_told L h s legal)
    ∙ counted (is_task_of h s) (is_at_in (entries h s) x) (λ k. is_stage x (stage h k)) (λ k in_it. ap (is_stage x) (stage_told L h s k legal in_it)) (task_numbers h)

-- the entries tell how many tasks of a scope are at each stage
pub counts_told : (L : Limits) (h : History) (s : ℕ) → Legal L h → counts_in (entries h s) ≡ counts h s
unfolding counts_in counts
counts_told L h s legal = same_counts _ _ _ _ _ _ _ _ (tally_told L h s Never legal) (tally_told L h s Waiting legal) (tally_told L h s Running legal) (tally_told L h s Finished legal)

-- and whether one waits or runs
pub settled_told : (L : Limits) (h : History) (s : ℕ) → Legal L h → settled_in (entries h s) ≡ settled h s
unfolding settled_in settled
settled_told L h s legal =
    ap not (ap (list_any (is_unsettled_in (entries h s))) (tasks_told L h s legal)
    ∙ asked (is_task_of h s) (is_unsettled_in (entries h s)) (λ k. not (is_settled (stage h k))) (λ k in_it. ap (λ x. not (is_settled x)) (stage_told L h s k legal in_it)) (task_numbers h))

-- and whether it may be joined
pub ready_told : (L : Limits) (h : History) (s : ℕ) → Legal L h → ready_in (entries h s) ≡ ready h s
unfolding ready_in ready
ready_told L h s legal = ap (λ b. b || settled_in (entries h s)) (marked L h s legal) ∙ ap (λ b. is_cancelled h s || b) (settled_told L h s legal)

-- ---- lists of values and states

-- the entries tell the values of a scope's tasks
pub values_told : (L : Limits) (h : History) (s : ℕ) → Legal L h → values_by (state_in (entries h s)) (tasks_in (entries h s)) ≡ values_by (state h) (tasks_of h s)
unfolding tasks_of
values_told L h s legal =
    ap (values_by (state_in (entries h s))) (tasks_told L h s legal) ∙ values_same (is_task_of h s) (state_in (entries h s)) (state h) (λ k in_it. state_told L h s k legal in_it) (task_numbers h)

-- and the states of them all
pub listing_told : (L : Limits) (h : History) (s : ℕ) → Legal L h → listing_by (state_in (entries h s)) (tasks_in (entries h s)) ≡ listing_by (state h) (tasks_of h s)
unfolding tasks_of
listing_told L h s legal =
    ap (listing_by (state_in (entries h s))) (tasks_told L h s legal) ∙ listing_same (is_task_of h s) (state_in (entries h s)) (state h) (λ k in_it. state_told L h s k legal in_it) (task_numbers h)
