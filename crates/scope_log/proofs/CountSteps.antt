-- The count of the tasks of the entries so far, one entry more.
use Rattle.std.proofs.Common.{[], ℕ, ◌++◌, ◌+◌, ◌<◌, ◌∙◌, ◌∷◌, ◌≡◌, ◌≤◌, List, None, Option, Some, ap, arith, cond, count_by, get_or, length, refl, sym, take}
use Rattle.scope_log.specs.{Counts, Finished, LogEntry, Never, Running, Stage, Waiting, cons_option, counted, counts_of, filter_map, is_at_in, is_stage, option_map_or, stage_in, task_forked, total}
use Rattle.scope_log.proofs.Words.{append-nil, filter_map-append, sum_by-append, take_more}

abbrev pub tallied : ℕ → ℕ → ℕ → ℕ → Counts
tallied never waiting running finished = record { never = never; waiting = waiting; running = running; finished = finished }

pub same_counts : (a b c d w x y z : ℕ) → a ≡ w → b ≡ x → c ≡ y → d ≡ z → tallied a b c d ≡ tallied w x y z
same_counts a b c d w x y z p q r t = rw p (rw q (rw r (rw t refl)))

none_more : (n : ℕ) → n + 0 ≡ n
none_more n = omega arith

by_stage : (c : Counts) (x : Stage)
    → tallied (c.never + cond (is_stage Never x) 1 0) (c.waiting + cond (is_stage Waiting x) 1 0) (c.running + cond (is_stage Running x) 1 0) (c.finished + cond (is_stage Finished x) 1 0) ≡ counted c x
by_stage c Never = same_counts _ _ _ _ _ _ _ _ refl (none_more c.waiting) (none_more c.running) (none_more c.finished)
by_stage c Waiting = same_counts _ _ _ _ _ _ _ _ (none_more c.never) refl (none_more c.running) (none_more c.finished)
by_stage c Running = same_counts _ _ _ _ _ _ _ _ (none_more c.never) (none_more c.waiting) refl (none_more c.finished)
by_stage c Finished = same_counts _ _ _ _ _ _ _ _ (none_more c.never) (none_more c.waiting) (none_more c.running) refl

-- a task more is counted at its stage
counts_more : (es : List LogEntry) (ks : List ℕ) (k : ℕ) → counts_of es (ks ++ k ∷ []) ≡ counted (counts_of es ks) (stage_in es k)
counts_more es ks k = same_counts _ _ _ _ _ _ _ _ (at Never) (at Waiting) (at Running) (at Finished) ∙ by_stage (counts_of es ks) (stage_in es k)
  where
    at : (x : Stage) → count_by (is_at_in es x) (ks ++ k ∷ []) ≡ count_by (is_at_in es x) ks + cond (is_stage x (stage_in es k)) 1 0
    at x = sum_by-append (λ n. cond (is_at_in es x n) 1 0) ks (k ∷ []) ∙ omega arith

-- the tasks of one entry more
counts_next : (es : List LogEntry) (ks : List ℕ) (o : Option ℕ) → counts_of es (ks ++ cons_option o []) ≡ option_map_or (λ k. counted (counts_of es ks) (stage_in es k)) o (counts_of es ks)
counts_next es ks None = ap (counts_of es) (append-nil ks)
counts_next es ks (Some k) = counts_more es ks k

one_picked : {A : Type 0} (f : A → Option ℕ) (x : A) → filter_map f (x ∷ []) ≡ cons_option (f x) []
one_picked f x = refl

-- the count goes on with the entry
pub counts_step : (es : List LogEntry) (i : ℕ) (x : LogEntry) (c d : Counts) → i < length es → x ≡ get_or es i x → c ≡ counts_of es (filter_map task_forked (take i es))
    → d ≡ option_map_or (λ k. counted c (stage_in es k)) (task_forked x) c → d ≡ counts_of es (filter_map task_forked (take (i + 1) es))
counts_step es i x c d within item so next =
    let ks = filter_map task_forked (take i es) in
    next
    ∙ (ap (λ (y : Counts). option_map_or (λ k. counted y (stage_in es k)) (task_forked x) y) so
    ∙ (sym (counts_next es ks (task_forked x))
    ∙ (ap (λ (y : LogEntry). counts_of es (ks ++ cons_option (task_forked y) [])) item
    ∙ ap (counts_of es) (sym (ap (filter_map task_forked) (take_more es i x within) ∙ filter_map-append task_forked (take i es) (get_or es i x ∷ []))))))

counted_total : (c : Counts) (x : Stage) → total (counted c x) ≡ total c + 1
counted_total c Never = omega arith
counted_total c Waiting = omega arith
counted_total c Running = omega arith
counted_total c Finished = omega arith

-- an entry more counts one task more, at the most
pub total_step : (es : List LogEntry) (i : ℕ) (x : LogEntry) (c d : Counts) → total c ≤ i → d ≡ option_map_or (λ k. counted c (stage_in es k)) (task_forked x) c → total d ≤ i + 1
total_step es i x c d so next = by (task_forked x) next
  where
    by : (o : Option ℕ) → d ≡ option_map_or (λ k. counted c (stage_in es k)) o c → total d ≤ i + 1
    by None same = let sum = ap total same in omega (arith, sum, so)
    by (Some k) same = let sum = ap total same ∙ counted_total c (stage_in es k) in omega (arith, sum, so)
