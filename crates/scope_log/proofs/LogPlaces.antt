-- The entries of a scope, place by place.
use Rattle.std.proofs.Common.{[], ℕ, ◌++◌, ◌+◌, ◌∙◌, ◌∷◌, ◌≡◌, None, Ok, Option, Some, ap, append_assoc, arith, cond, refl, slice_get, sym}
use Rattle.scope_log.specs.{Event, Fork, History, LogEntry, Words.tasks, before, cons_option, entries_at, entry_at, flat_map, is_fork, is_of, log, mark_at, range_with_len, said, said_with, scope_check}
use Rattle.scope_log.proofs.Words.{count_by_at_yes, scope_passed}
use Rattle.scope_log.proofs.LogSteps.{flat_map_more}

-- a fork's task is the last that is numbered once it is there
pub said_by_then : (h : History) (i : ℕ) (e : Event) → slice_get h.events i ≡ Some e → said_with (tasks (before h (i + 1))) e ≡ said (before h i) e
said_by_then h i (Fork actor scope label) at =
    let more = count_by_at_yes is_fork h.events i (Fork actor scope label) at refl in
    let same : tasks (before h (i + 1)) ≡ tasks (before h i) + 1 = omega (arith, more) in
    ap (λ k. said_with k (Fork actor scope label)) same
said_by_then h i e at = refl

-- the entry of the event at place i
pub entry_there : (h : History) (s i : ℕ) (e : Event) → slice_get h.events i ≡ Some e → entry_at h s i ≡ cond (is_of (before h i) s e) (said_with (tasks (before h (i + 1))) e) None
entry_there h s i e at = rw at (ap (λ o. cond (is_of (before h i) s e) o None) (sym (said_by_then h i e at)))

pushed_twice : (es : _) (x y : Option LogEntry) → (es ++ cons_option x []) ++ cons_option y [] ≡ es ++ cons_option x (cons_option y [])
pushed_twice es None y = append_assoc es [] (cons_option y [])
pushed_twice es (Some x) y = append_assoc es (x ∷ []) (cons_option y [])

-- the entries of one place more
pub entries_more : (h : History) (s i : ℕ) → flat_map (entries_at h s) (range_with_len 0 (i + 1)) ≡ (flat_map (entries_at h s) (range_with_len 0 i) ++ cons_option (entry_at h s i) []) ++ cons_option (mark_at h s i) []
entries_more h s i =
    let at : 0 + i ≡ i = omega arith in
    flat_map_more (entries_at h s) 0 i
    ∙ (ap (λ n. flat_map (entries_at h s) (range_with_len 0 i) ++ entries_at h s n) at
    ∙ sym (pushed_twice (flat_map (entries_at h s) (range_with_len 0 i)) (entry_at h s i) (mark_at h s i)))

-- a scope that is there has a log
pub log_there_where : (h : History) (s : ℕ) → scope_check h s ≡ Ok tt → log h s ≡ None → ⊥
unfolding log
log_there_where h s passed none =
    let it = scope_passed h s passed in
    absurd (cc (it.is, none))
