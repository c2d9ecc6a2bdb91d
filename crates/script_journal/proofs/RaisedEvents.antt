-- What is read of the events of a history stays, but for the numbers, if so many others were numbered before.
use Rattle.std.proofs.Common.{ℕ, ◌+◌, ◌==◌, ◌∙◌, ◌≡◌, Bool, List, None, Option, Some, ap, arith, cond, count_by, false, length, map, option_map, refl, slice_get, suc, take, true, zero}
use Rattle.script_journal.specs.{Event, Fork, History, Open, Tick, before, forked_count, forking, forking_of, is_fork, is_open, load, moment, numbered_at, opened_count, opening, opening_of, option_and_then, tick_of, weight}
use Rattle.script_journal.proofs.Lemmas.{count_mapped, earliest_mapped, fun_ext, last_mapped, length-map, nat_tests, slice_get-map, sum_mapped, take-map}
use Rattle.script_journal.proofs.Raising.{earliest_none, raised, up, up_forking, up_opening}

module _ (S K : ℕ) where
  -- the history, if so many scopes and tasks were numbered before
  abbrev pub raise : History → History
  raise h = record { base = record { moment = h.base.moment; scopes = S + h.base.scopes; tasks = K + h.base.tasks; binds = h.base.binds }; events = map (raised S K) h.events }

  open_raised : (e : Event) → is_open (raised S K e) ≡ is_open e
  open_raised (Open actor policy options) = refl
  open_raised _ = refl

  fork_raised : (e : Event) → is_fork (raised S K e) ≡ is_fork e
  fork_raised (Fork actor scope label) = refl
  fork_raised _ = refl

  tick_raised : (e : Event) → tick_of (raised S K e) ≡ tick_of e
  tick_raised (Tick now) = refl
  tick_raised _ = refl

  weight_raised : (e : Event) → weight (raised S K e) ≡ weight e
  weight_raised (Tick now) = refl
  weight_raised _ = refl

  pub raised_before : (h : History) (i : ℕ) → before (raise h) i ≡ raise (before h i)
  raised_before h i = ap (λ (es : List Event). record { base = (raise h).base; events = es }) (take-map (raised S K) i h.events)

  pub raised_length : (h : History) → length (raise h).events ≡ length h.events
  raised_length h = length-map h.events (raised S K)

  pub raised_at : (h : History) (i : ℕ) → slice_get (raise h).events i ≡ option_map (raised S K) (slice_get h.events i)
  raised_at h i = slice_get-map (raised S K) h.events i

  pub raised_opened : (h : History) → opened_count (raise h) ≡ opened_count h
  raised_opened h = count_mapped (raised S K) is_open open_raised h.events

  pub raised_forked : (h : History) → forked_count (raise h) ≡ forked_count h
  raised_forked h = count_mapped (raised S K) is_fork fork_raised h.events

  pub raised_load : (h : History) → load (raise h) ≡ load h
  unfolding load
  raised_load h = ap (λ n. length h.base.binds + n) (sum_mapped (raised S K) weight weight_raised h.events)

  pub raised_moment : (h : History) → moment (raise h) ≡ moment h
  unfolding moment
  raised_moment h = rw (last_mapped (raised S K) tick_of tick_raised h.events) refl

  -- ---- the numbers that events got

  counted : (kind : Event → Bool) → ((e : Event) → kind (raised S K e) ≡ kind e) → (es : List Event) (i : ℕ) → count_by kind (take i (map (raised S K) es)) ≡ count_by kind (take i es)
  counted kind same es i = ap (count_by kind) (take-map (raised S K) i es) ∙ count_mapped (raised S K) kind same (take i es)

  number_raised : (a b c s : ℕ) → (a + b + c + 1 == a + s) ≡ (b + c + 1 == s)
  number_raised a b c s = grind (arith, nat_tests)

  none_of_main : (a b : ℕ) → (a + b + 1 == 0) ≡ false
  none_of_main a b = grind (arith, nat_tests)

  opening_raised : (i : ℕ) (o : Option Event) → option_and_then (opening_of i) (option_map (raised S K) o) ≡ option_map (up_opening K) (option_and_then (opening_of i) o)
  opening_raised i None = refl
  opening_raised i (Some (Open actor policy options)) = refl
  opening_raised i (Some _) = refl

  forking_raised : (i : ℕ) (o : Option Event) → option_and_then (forking_of i) (option_map (raised S K) o) ≡ option_map (up_forking S K) (option_and_then (forking_of i) o)
  forking_raised i None = refl
  forking_raised i (Some (Fork actor scope label)) = refl
  forking_raised i (Some _) = refl

  found_if : {R : Type 0} (up_record : R → R) (here : Bool) (o : Option R) → cond here (option_map up_record o) None ≡ option_map up_record (cond here o None)
  found_if up_record true o = refl
  found_if up_record false o = refl

  opening_at : (h : History) (s i : ℕ) → numbered_at is_open opening_of (S + h.base.scopes) (raise h).events (S + s) i ≡ option_map (up_opening K) (numbered_at is_open opening_of h.base.scopes h.events s i)
  opening_at h s i =
      rw (counted is_open open_raised h.events i, raised_at h i, opening_raised i (slice_get h.events i), number_raised S h.base.scopes (count_by is_open (take i h.events)) s)
      (found_if (up_opening K) (h.base.scopes + count_by is_open (take i h.events) + 1 == s) (option_and_then (opening_of i) (slice_get h.events i)))

  pub raised_opening : (h : History) (s : ℕ) → opening (raise h) (S + s) ≡ option_map (up_opening K) (opening h s)
  unfolding opening
  raised_opening h s = rw (raised_length h, fun_ext (opening_at h s)) (earliest_mapped (up_opening K) (numbered_at is_open opening_of h.base.scopes h.events s) (length h.events))

  forking_at : (h : History) (k i : ℕ) → numbered_at is_fork forking_of (K + h.base.tasks) (raise h).events (K + k) i ≡ option_map (up_forking S K) (numbered_at is_fork forking_of h.base.tasks h.events k i)
  forking_at h k i =
      rw (counted is_fork fork_raised h.events i, raised_at h i, forking_raised i (slice_get h.events i), number_raised K h.base.tasks (count_by is_fork (take i h.events)) k)
      (found_if (up_forking S K) (h.base.tasks + count_by is_fork (take i h.events) + 1 == k) (option_and_then (forking_of i) (slice_get h.events i)))

  not_forked : (g : History) (i : ℕ) → numbered_at is_fork forking_of g.base.tasks g.events 0 i ≡ None
  not_forked g i = rw (none_of_main g.base.tasks (count_by is_fork (take i g.events))) refl

  pub main_unforked : (g : History) → forking g 0 ≡ None
  unfolding forking
  main_unforked g = earliest_none (numbered_at is_fork forking_of g.base.tasks g.events 0) (not_forked g) (length g.events)

  not_opened : (g : History) (i : ℕ) → numbered_at is_open opening_of g.base.scopes g.events 0 i ≡ None
  not_opened g i = rw (none_of_main g.base.scopes (count_by is_open (take i g.events))) refl

  pub none_unopened : (g : History) → opening g 0 ≡ None
  unfolding opening
  none_unopened g = earliest_none (numbered_at is_open opening_of g.base.scopes g.events 0) (not_opened g) (length g.events)

  task_forked : (h : History) (k : ℕ) → forking (raise h) (K + k) ≡ option_map (up_forking S K) (forking h k)
  unfolding forking
  task_forked h k = rw (raised_length h, fun_ext (forking_at h k)) (earliest_mapped (up_forking S K) (numbered_at is_fork forking_of h.base.tasks h.events k) (length h.events))

  pub raised_forking : (h : History) (k : ℕ) → forking (raise h) (up K k) ≡ option_map (up_forking S K) (forking h k)
  unfolding up
  raised_forking h zero = rw (main_unforked h) (main_unforked (raise h))
  raised_forking h (suc k) = task_forked h (suc k)
