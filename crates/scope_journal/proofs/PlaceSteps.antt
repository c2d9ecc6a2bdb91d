-- What one event more adds to the places of a scope's events.
use Rattle.std.proofs.Common.{[], ℕ, ◌++◌, ◌+◌, ◌<◌, ◌==◌, ◌∙◌, ◌∷◌, ◌≡◌, Bool, List, None, Option, Some, ap, arith, cond, false, length, length-append, option_map, refl, slice_get, suc, true, zero}
use Rattle.scope_journal.specs.{BeginClose, Cancel, EndClose, Event, Finish, Fork, Forking, History, Join, Legal, Limits, LogEntry, Move, Open, Opening, Reject, Start, before, cons_option, entries, entries_at, entry_at, entry_of}
use Rattle.scope_journal.specs.{flat_map, followed, forking, if_one, is_of, is_of_at, is_task_of, mark_at, opening, option_and_then, option_map_or, places_of, range_with_len, scope_of_event, scope_of_task, scopes}
use Rattle.scope_journal.proofs.Words.{before_last, before_push, flat_map_more, flat_map_same, get_push, last_event, no_entries, opened_after}

-- ---- which scope an event is of

-- the scope is this one
abbrev pub is_this : Option ℕ → ℕ → Bool
is_this scope s = option_map_or (λ n. n == s) scope false

forked_of : (o : Option Forking) (s : ℕ) → option_map_or (λ (f : Forking). f.scope == s) o false ≡ is_this (option_map (λ (f : Forking). f.scope) o) s
forked_of None s = refl
forked_of (Some f) s = refl

task_of : (h : History) (s k : ℕ) → is_task_of h s k ≡ is_this (scope_of_task h k) s
unfolding is_task_of
task_of h s k = forked_of (forking h k) s

-- an event is of the scope that is its, and of no other
pub event_of : (h : History) (s : ℕ) (e : Event) → is_of h s e ≡ is_this (scope_of_event h e) s
event_of h s (Reject task) = task_of h s task
event_of h s (Start task) = task_of h s task
event_of h s (Finish task end) = task_of h s task
event_of h s _ = refl

-- ---- one event more

stays_at : (h : History) (e : Event) (s i : ℕ) → i < length h.events → is_of_at (followed h e) s i ≡ is_of_at h s i
stays_at h e s i within = rw (before_push h e i (omega arith)) (rw (get_push h.events e i within) refl)

new_at : (h : History) (e : Event) (s : ℕ) → is_of_at (followed h e) s (length h.events) ≡ is_of h s e
new_at h e s = rw (before_last h e) (rw (last_event h.events e) refl)

-- an event adds its place to those of its scope
pub places_grow : (h : History) (e : Event) (s : ℕ) → places_of (followed h e) s ≡ places_of h s ++ if_one (is_of h s e) (length h.events)
unfolding places_of
places_grow h e s =
    let g = followed h e in
    let n = length h.events in
    let longer : length (h.events ++ e ∷ []) ≡ n + 1 = length-append h.events (e ∷ []) ∙ omega arith in
    let F : ℕ → List ℕ = λ i. if_one (is_of_at g s i) i in
    let G : ℕ → List ℕ = λ i. if_one (is_of_at h s i) i in
    let old = flat_map_same F G 0 n (λ i above below. ap (λ b. if_one b i) (stays_at h e s i (omega (arith, below)))) in
    let at : 0 + n ≡ n = omega arith in
    let new : F n ≡ if_one (is_of h s e) n = ap (λ b. if_one b n) (new_at h e s) in
    ap (λ m. flat_map F (range_with_len 0 m)) longer
    ∙ (flat_map_more F 0 n
    ∙ (ap (λ xs. xs ++ F (0 + n)) old
    ∙ ap (λ xs. flat_map G (range_with_len 0 n) ++ xs) (ap F at ∙ new)))

-- ---- a scope that isn't opened yet

unsaid_by : (b : Bool) (entry : LogEntry) → cond b (Some entry) None ≡ None → b ≡ false
unsaid_by true entry none = absurd cc
unsaid_by false entry none = refl

unsaid : (h : History) (s : ℕ) (e : Event) → entry_of h s e ≡ None → is_of h s e ≡ false
unsaid h s (Open actor policy options) none = unsaid_by _ _ none
unsaid h s (Fork actor scope label) none = unsaid_by _ _ none
unsaid h s (Reject task) none = unsaid_by _ _ none
unsaid h s (Start task) none = unsaid_by _ _ none
unsaid h s (Finish task end) none = unsaid_by _ _ none
unsaid h s (Cancel scope) none = unsaid_by _ _ none
unsaid h s (Move scope deadline) none = unsaid_by _ _ none
unsaid h s (Join actor scope) none = unsaid_by _ _ none
unsaid h s (BeginClose actor scope) none = unsaid_by _ _ none
unsaid h s (EndClose actor scope) none = unsaid_by _ _ none
unsaid h s _ none = refl

unsaid_at : (h : History) (s i : ℕ) (o : Option Event) → option_and_then (entry_of (before h i) s) o ≡ None → option_map_or (is_of (before h i) s) o false ≡ false
unsaid_at h s i None none = refl
unsaid_at h s i (Some e) none = unsaid (before h i) s e none

no_entry : (entry mark : Option LogEntry) (xs : List LogEntry) → cons_option entry (cons_option mark []) ++ xs ≡ [] → (entry ≡ None) × (xs ≡ [])
no_entry None None xs none = (refl, none)
no_entry None (Some y) xs none = absurd cc
no_entry (Some x) mark xs none = absurd cc

no_places : (h : History) (s a n : ℕ) → flat_map (entries_at h s) (range_with_len a n) ≡ [] → flat_map (λ i. if_one (is_of_at h s i) i) (range_with_len a n) ≡ []
no_places h s a zero none = refl
no_places h s a (suc n) none =
    let it = no_entry (entry_at h s a) (mark_at h s a) (flat_map (entries_at h s) (range_with_len (a + 1) n)) none in
    let here : is_of_at h s a ≡ false = unsaid_at h s a (slice_get h.events a) it.0 in
    rw here (no_places h s (a + 1) n it.1)

unopened_by : (h : History) (o : Option Opening) → opening h (scopes h + 1) ≡ o → opening h (scopes h + 1) ≡ None
unopened_by h None is = is
unopened_by h (Some o) is = let number = opened_after h (scopes h + 1) o is in absurd (omega (arith, number.1, number.2))

-- no event is of the next scope
pub next_unplaced : (L : Limits) (h : History) → Legal L h → places_of h (scopes h + 1) ≡ []
unfolding places_of entries
next_unplaced L h legal = no_places h (scopes h + 1) 0 (length h.events) (no_entries L h (scopes h + 1) legal (unopened_by h (opening h (scopes h + 1)) refl))
