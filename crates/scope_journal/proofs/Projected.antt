-- What the events at a scope's places say, one after another, and where the mark comes among them.
use Rattle.std.proofs.Common.{[], ℕ, ◌++◌, ◌+◌, ◌-◌, ◌<◌, ◌∙◌, ◌∷◌, ◌≡◌, ◌≤◌, Bool, List, None, Option, Some, ap, arith, cond, drop, false, get_or, length, option_map, refl, slice_get, subst, suc, sym, take, true, zero}
use Rattle.scope_journal.specs.{BeginClose, Cancel, Cause, EndClose, Event, Finish, Fork, History, Join, Label, Legal, Limits, LogEntry, Move, Open, Reject, Start, before, cancel_of, cancelled_at, cause, cons_option, entries}
use Rattle.scope_journal.specs.{entries_from, entry_at, entry_of, filter, filter_map, first_cancel, flat_map, if_one, insert, is_fork, is_of, is_of_at, is_task_of, is_up_to, marked, opening, option_and_then, option_map_or}
use Rattle.scope_journal.specs.{places_of, range_with_len, said, said_with, task_forked, task_numbers, tasks, tasks_in, up_to}
use Rattle.scope_journal.proofs.Words.{at_drop_more, cancelled_within, causeless, count_by-cons, count_by-le-length, drop_at, entries_marked, filter_map-append, flat_map-append, get_or-append_seam, le-leb, lt-leb}
use Rattle.scope_journal.proofs.Words.{slice_get-get_or, take-append-drop, take_at, tasks_told}
use Rattle.scope_journal.proofs.LogPlaces.{at_places, entries_placed}
use Rattle.scope_log.specs.declared.entries.LogEntry.TheVariants as entry

-- ---- what is said at a place

-- the event, the next after h, says something in a log
record Says (h : History) (e : Event) : Type 0 where
  pub entry : LogEntry
  pub is : said h e ≡ Some entry

-- an event that is of a scope does
says : (h : History) (s : ℕ) (e : Event) → is_of h s e ≡ true → Says h e
says h s (Open actor policy options) own = record { entry = _; is = refl }
says h s (Fork actor scope label) own = record { entry = _; is = refl }
says h s (Reject task) own = record { entry = _; is = refl }
says h s (Start task) own = record { entry = _; is = refl }
says h s (Finish task end) own = record { entry = _; is = refl }
says h s (Cancel scope) own = record { entry = _; is = refl }
says h s (Move scope deadline) own = record { entry = _; is = refl }
says h s (Join actor scope) own = record { entry = _; is = refl }
says h s (BeginClose actor scope) own = record { entry = _; is = refl }
says h s (EndClose actor scope) own = record { entry = _; is = refl }
says h s _ own = absurd cc

-- the event at place i is of scope s, and what it says is the entry there
pub record IsSaid (h : History) (s i : ℕ) : Type 0 where
  pub event : Event
  pub at : slice_get h.events i ≡ Some event
  pub entry : LogEntry
  pub is : entry_at h s i ≡ Some entry
  pub said : said (before h i) event ≡ Some entry

said_by : (h : History) (s i : ℕ) (o : Option Event) → slice_get h.events i ≡ o → option_map_or (is_of (before h i) s) o false ≡ true → IsSaid h s i
said_by h s i None at own = absurd cc
said_by h s i (Some e) at own =
    let it = says (before h i) s e own in
    record {
      event = e;
      at = at;
      entry = it.entry;
      is = ap (option_and_then (entry_of (before h i) s)) at ∙ (ap (λ b. cond b (said (before h i) e) None) own ∙ it.is);
      said = it.is;
    }

said_at : (h : History) (s i : ℕ) → is_of_at h s i ≡ true → IsSaid h s i
said_at h s i own = said_by h s i (slice_get h.events i) refl own

module _ (h : History) (s : ℕ) where
  abbrev from : ℕ → ℕ → List ℕ
  from a n = flat_map (λ i. if_one (is_of_at h s i) i) (range_with_len a n)

  abbrev said_from : ℕ → ℕ → List LogEntry
  said_from a n = filter_map (entry_at h s) (from a n)

  -- each of the places is one of the scope's
  own_at : (a n j i : ℕ) → slice_get (from a n) j ≡ Some i → is_of_at h s i ≡ true
  own_at a zero j i at = absurd cc
  own_at a (suc n) j i at = by (λ k found. own_at (a + 1) n k i found) (is_of_at h s a) refl j at
    where
      by : ((k : ℕ) → slice_get (from (a + 1) n) k ≡ Some i → is_of_at h s i ≡ true) → (b : Bool) → is_of_at h s a ≡ b → (k : ℕ) → slice_get (if_one b a ++ from (a + 1) n) k ≡ Some i → is_of_at h s i ≡ true
      by rest true own zero found = let same : a ≡ i = cc in subst (λ x. is_of_at h s x ≡ true) same own
      by rest true own (suc k) found = rest k found
      by rest false other k found = rest k found

  -- each says one entry
  as_many : (a n : ℕ) → length (said_from a n) ≡ length (from a n)
  as_many a zero = refl
  as_many a (suc n) = by (as_many (a + 1) n) (is_of_at h s a) refl
    where
      by : length (said_from (a + 1) n) ≡ length (from (a + 1) n) → (b : Bool) → is_of_at h s a ≡ b → length (filter_map (entry_at h s) (if_one b a ++ from (a + 1) n)) ≡ length (if_one b a ++ from (a + 1) n)
      by rest true own = ap (λ o. length (cons_option o (said_from (a + 1) n))) (said_at h s a own).is ∙ ap suc rest
      by rest false other = rest

  -- places up to this one all count
  all_up_to : (at a n : ℕ) → a + n ≤ at + 1 → up_to at (from a n) ≡ length (from a n)
  all_up_to at a zero below = refl
  all_up_to at a (suc n) below = by (all_up_to at (a + 1) n (omega (arith, below))) (is_of_at h s a) refl
    where
      by : up_to at (from (a + 1) n) ≡ length (from (a + 1) n) → (b : Bool) → is_of_at h s a ≡ b → up_to at (if_one b a ++ from (a + 1) n) ≡ length (if_one b a ++ from (a + 1) n)
      by rest true own =
          let one : up_to at (a ∷ from (a + 1) n) ≡ 1 + up_to at (from (a + 1) n) = count_by-cons (is_up_to at) a (from (a + 1) n) ∙ ap (λ c. cond c 1 0 + up_to at (from (a + 1) n)) (le-leb a at (omega (arith, below))) in
          omega (arith, one, rest)
      by rest false other = rest

  -- later ones don't
  none_up_to : (at a n : ℕ) → at < a → up_to at (from a n) ≡ 0
  none_up_to at a zero above = refl
  none_up_to at a (suc n) above = by (none_up_to at (a + 1) n (omega (arith, above))) (is_of_at h s a) refl
    where
      by : up_to at (from (a + 1) n) ≡ 0 → (b : Bool) → is_of_at h s a ≡ b → up_to at (if_one b a ++ from (a + 1) n) ≡ 0
      by rest true own =
          let none : up_to at (a ∷ from (a + 1) n) ≡ 0 + up_to at (from (a + 1) n) = count_by-cons (is_up_to at) a (from (a + 1) n) ∙ ap (λ c. cond c 1 0 + up_to at (from (a + 1) n)) (lt-leb a at above) in
          omega (arith, none, rest)
      by rest false other = rest

-- ---- where the mark comes

range_split : (a m n : ℕ) → range_with_len a (m + n) ≡ range_with_len a m ++ range_with_len (a + m) n
range_split a zero n = let none : 0 + n ≡ n = omega arith in let at : a + 0 ≡ a = omega arith in rw none (rw at refl)
range_split a (suc m) n =
    let more : suc m + n ≡ suc (m + n) = omega arith in
    let at : (a + 1) + m ≡ a + suc m = omega arith in
    rw more (ap (λ xs. a ∷ xs) (range_split (a + 1) m n ∙ ap (λ k. range_with_len (a + 1) m ++ range_with_len k n) at))

up_to_append : (at : ℕ) (xs ys : List ℕ) → up_to at (xs ++ ys) ≡ up_to at xs + up_to at ys
up_to_append at [] ys = omega arith
up_to_append at (x ∷ xs) ys = omega (arith, count_by-cons (is_up_to at) x (xs ++ ys), up_to_append at xs ys, count_by-cons (is_up_to at) x xs)

-- an element that is put where one list ends and the next begins
put_between : {A : Type 0} (xs ys : List A) (n : ℕ) (x : A) → length xs ≡ n → insert (xs ++ ys) n x ≡ xs ++ x ∷ ys
put_between xs ys n x size = ap (λ zs. zs ++ x ∷ drop n (xs ++ ys)) (take_at xs ys n size) ∙ ap (λ zs. xs ++ x ∷ zs) (drop_at xs ys n size)

module _ (h : History) (s : ℕ) where
  parted : (at : ℕ) → at < length h.events → from h s 0 (length h.events) ≡ from h s 0 (at + 1) ++ from h s (at + 1) (length h.events - (at + 1))
  parted at within =
      let rest = length h.events - (at + 1) in
      let size : length h.events ≡ (at + 1) + rest = omega (arith, within) in
      let start : 0 + (at + 1) ≡ at + 1 = omega arith in
      let F : ℕ → List ℕ = λ i. if_one (is_of_at h s i) i in
      ap (λ n. flat_map F (range_with_len 0 n)) size
      ∙ (ap (flat_map F) (range_split 0 (at + 1) rest ∙ ap (λ k. range_with_len 0 (at + 1) ++ range_with_len k rest) start)
      ∙ flat_map-append F (range_with_len 0 (at + 1)) (range_with_len (at + 1) rest))

  mark_put : (at : ℕ) (c : Cause) → cancelled_at h s ≡ Some at → cause h s ≡ Some c → insert (said_from h s 0 (length h.events)) (up_to at (from h s 0 (length h.events))) (entry.Cancelled c) ≡ entries h s
  mark_put at c is why =
      let within = cancelled_within h s at is in
      let rest = length h.events - (at + 1) in
      let first = from h s 0 (at + 1) in
      let last = from h s (at + 1) rest in
      let split = parted at within in
      let size : up_to at (first ++ last) ≡ length (filter_map (entry_at h s) first) =
      omega (arith, up_to_append at first last, all_up_to h s at 0 (at + 1) (omega arith), none_up_to h s at (at + 1) rest (omega arith), as_many h s 0 (at + 1)) in
      ap (λ ps. insert (filter_map (entry_at h s) ps) (up_to at ps) (entry.Cancelled c)) split
      ∙ (ap (λ n. insert (filter_map (entry_at h s) (first ++ last)) n (entry.Cancelled c)) size
      ∙ (ap (λ es. insert es (length (filter_map (entry_at h s) first)) (entry.Cancelled c)) (filter_map-append (entry_at h s) first last)
      ∙ (put_between (filter_map (entry_at h s) first) (filter_map (entry_at h s) last) (length (filter_map (entry_at h s) first)) (entry.Cancelled c) refl
      ∙ (ap (λ es. es ++ entry.Cancelled c ∷ filter_map (entry_at h s) last) (at_places h s 0 (at + 1))
      ∙ (ap (λ es. entries_from h s 0 (at + 1) ++ entry.Cancelled c ∷ es) (at_places h s (at + 1) rest)
      ∙ sym ((entries_marked h s).cancelled at c is why))))))

  uncaused : (at : ℕ) → cancelled_at h s ≡ Some at → cause h s ≡ None → ⊥
  unfolding cancelled_at cause
  uncaused at is why = causeless (opening h s) (first_cancel h s) at is why

  marked_by : (at : Option ℕ) (c : Option Cause) → cancelled_at h s ≡ at → cause h s ≡ c → marked (places_of h s) (option_and_then (λ n. option_map (λ (x : Cause). (n, x)) c) at) (filter_map (entry_at h s) (places_of h s)) ≡ entries h s
  unfolding places_of
  marked_by None c is why = entries_placed h s ∙ sym ((entries_marked h s).live is)
  marked_by (Some at) None is why = absurd (uncaused at is why)
  marked_by (Some at) (Some c) is why = mark_put at c is why

  -- what the events at a scope's places say, with the mark where it comes, are the scope's entries
  pub projected : marked (places_of h s) (cancel_of h s) (filter_map (entry_at h s) (places_of h s)) ≡ entries h s
  projected = marked_by (cancelled_at h s) (cause h s) refl refl

  -- the mark comes within them
  pub mark_within : (at : ℕ) → up_to at (places_of h s) ≤ length (places_of h s)
  mark_within at = count_by-le-length (is_up_to at) (places_of h s)

  -- each of the scope's places says one
  pub each_said : length (filter_map (entry_at h s) (places_of h s)) ≡ length (places_of h s)
  unfolding places_of
  each_said = as_many h s 0 (length h.events)

  -- of an event that is of the scope
  pub place_said : (n i : ℕ) → slice_get (places_of h s) n ≡ Some i → IsSaid h s i
  unfolding places_of
  place_said n i at = said_at h s i (own_at h s 0 (length h.events) n i at)

-- ---- which task a fork gives

tasks_unmarked : (es : List LogEntry) (i : ℕ) (c : Cause) → tasks_in (insert es i (entry.Cancelled c)) ≡ tasks_in es
unfolding tasks_in
tasks_unmarked es i c =
    filter_map-append task_forked (take i es) (entry.Cancelled c ∷ drop i es)
    ∙ (sym (filter_map-append task_forked (take i es) (drop i es)) ∙ ap (filter_map task_forked) (take-append-drop i es))

tasks_same : (ps : List ℕ) (m : Option (ℕ × Cause)) (es : List LogEntry) → tasks_in (marked ps m es) ≡ tasks_in es
tasks_same ps None es = refl
tasks_same ps (Some m) es = tasks_unmarked es (up_to m.0 ps) m.1

-- the tasks that are said at the places are the scope's, in fork order
said_tasks : (L : Limits) (h : History) (s : ℕ) → Legal L h → tasks_in (filter_map (entry_at h s) (places_of h s)) ≡ filter (is_task_of h s) (task_numbers h)
said_tasks L h s legal = sym (tasks_same (places_of h s) (cancel_of h s) _) ∙ (ap tasks_in (projected h s) ∙ tasks_told L h s legal)

same_said : (k n : ℕ) (e : Event) → (is_fork e ≡ true → k ≡ n) → said_with k e ≡ said_with n e
same_said k n (Fork actor scope label) same = ap (λ x. Some (entry.Fork x actor label)) (same refl)
same_said k n e same = refl

-- the next of the tasks in order is the one of the next fork
task_next : (xs ys : List LogEntry) (k a : ℕ) (label : Label) → get_or (tasks_in (xs ++ entry.Fork k a label ∷ ys)) (length (tasks_in xs)) 0 ≡ k
unfolding tasks_in
task_next xs ys k a label =
    ap (λ ks. get_or ks (length (filter_map task_forked xs)) 0) (filter_map-append task_forked xs (entry.Fork k a label ∷ ys))
    ∙ get_or-append_seam (filter_map task_forked xs) k (filter_map task_forked ys) 0

module _ (L : Limits) (h : History) (s : ℕ) (legal : Legal L h) (n : ℕ) (within : n < length (places_of h s)) where
  abbrev so_far : List LogEntry
  so_far = filter_map (entry_at h s) (take n (places_of h s))

  abbrev place : ℕ
  place = get_or (places_of h s) n 0

  there : IsSaid h s place
  there = place_said h s n place (slice_get-get_or (places_of h s) n 0 within)

  all_said : (x : LogEntry) → entry_at h s place ≡ Some x → filter_map (entry_at h s) (places_of h s) ≡ so_far ++ x ∷ filter_map (entry_at h s) (drop (n + 1) (places_of h s))
  all_said x is =
      ap (filter_map (entry_at h s)) (sym (take-append-drop n (places_of h s)))
      ∙ (filter_map-append (entry_at h s) (take n (places_of h s)) (drop n (places_of h s))
      ∙ (ap (λ es. so_far ++ es) (at_drop_more (filter_map (entry_at h s)) (places_of h s) n 0 within)
      ∙ ap (λ o. so_far ++ cons_option o (filter_map (entry_at h s) (drop (n + 1) (places_of h s)))) is))

  fork_task : (e : Event) → entry_at h s place ≡ said (before h place) e → is_fork e ≡ true → get_or (filter (is_task_of h s) (task_numbers h)) (length (tasks_in so_far)) 0 ≡ tasks (before h place) + 1
  fork_task (Fork actor scope label) is fork =
      ap (λ ks. get_or ks (length (tasks_in so_far)) 0) (sym (said_tasks L h s legal) ∙ ap tasks_in (all_said (entry.Fork (tasks (before h place) + 1) actor label) is))
      ∙ task_next so_far (filter_map (entry_at h s) (drop (n + 1) (places_of h s))) (tasks (before h place) + 1) actor label
  fork_task _ is fork = absurd cc

  -- the next place's event says its entry, if a fork's task is the next of the scope's
  pub next_said : (e : Event) → slice_get h.events place ≡ Some e → said_with (get_or (filter (is_task_of h s) (task_numbers h)) (length (tasks_in so_far)) 0) e ≡ entry_at h s place
  next_said e at =
      let it = there in
      let same : it.event ≡ e = cc (it.at, at) in
      let is : entry_at h s place ≡ said (before h place) e = it.is ∙ (sym it.said ∙ ap (said (before h place)) same) in
      same_said _ _ e (fork_task e is) ∙ sym is
