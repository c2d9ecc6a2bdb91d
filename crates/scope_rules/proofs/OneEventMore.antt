-- What one event more makes of openings, forkings, ends and closes, and what holds along a history.
use Rattle.std.proofs.Common.{[], ℕ, ◌++◌, ◌+◌, ◌<◌, ◌==◌, ◌||◌, ◌∙◌, ◌∷◌, ◌≡◌, ◌≢◌, ◌≤◌, ◌⊎◌, Bool, List, None, Option, Some, add-one, ap, append_assoc, arith, cond, count_by, drop, false, inl, inr, length, length-append, refl}
use Rattle.std.proofs.Common.{slice_get, subst, suc, sym, take, true, zero}
use Rattle.scope_rules.specs.{Accepts, Event, Fork, Forking, History.History, History.scopes, History.tasks, Legal.Legal, Limits, Opening, Origin.Origin, Scopes.joined, before, begins_closing, closed, closing, closing_at}
use Rattle.scope_rules.specs.{declared.types.events.Event.TheVariants.Open, earliest, ends, finished, finishes, followed, forking, forking_of, is_fork, is_open, joins, numbered_at, opening, opening_of, option_or, rejected}
use Rattle.scope_rules.specs.{rejects, some_below, started, starts}
use Rattle.scope_rules.proofs.Words.{append-nil, eqb-true, ne_eqb, take-append-drop, take-append-le, take_all}
use Rattle.scope_rules.proofs.{Accepted.entry_at, Accepted.or_left, Growing.forking_stays, Growing.opening_stays, Nesting.legal_before, Numbers.list_any-push, Openings.if_some, Prefixes.get_push, Prefixes.option_or-none}
use Rattle.scope_rules.proofs.{Prefixes.take_at, Pushing.before_all, Pushing.before_last, Pushing.before_push, Searching.earliest_same, Searching.some_below_more}

-- the last event stands after the others
pub last_event : (es : List Event) (e : Event) → slice_get (es ++ e ∷ []) (length es) ≡ Some e
last_event [] e = refl
last_event (x ∷ es) e = last_event es e

without_last : (es : List Event) (e : Event) → take (length es) (es ++ e ∷ []) ≡ es
without_last es e = take-append-le (length es) es (e ∷ []) (omega arith) ∙ take_all (length es) es (omega arith)

longer_by_one : (es : List Event) (e : Event) → length (es ++ e ∷ []) ≡ length es + 1
longer_by_one es e = length-append es (e ∷ []) ∙ omega arith

pub some_below_same : (p q : ℕ → Bool) (n : ℕ) → ((i : ℕ) → i < n → p i ≡ q i) → some_below p n ≡ some_below q n
unfolding some_below
some_below_same p q zero same = refl
some_below_same p q (suc n) same = rw (some_below_same p q n (λ i h. same i (omega arith))) (ap (λ b. some_below q n || b) (same n (omega arith)))

module _ {R : Type 0} (kind : Event → Bool) (shown : ℕ → Event → Option R) (start : ℕ) (n : ℕ) where
  numbered_same : (es : List Event) (e : Event) (i : ℕ) → i < length es → numbered_at kind shown start (es ++ e ∷ []) n i ≡ numbered_at kind shown start es n i
  numbered_same es e i within = rw (take-append-le i es (e ∷ []) (omega arith)) (rw (get_push es e i within) refl)

  numbered_last : (es : List Event) (e : Event) → numbered_at kind shown start (es ++ e ∷ []) n (length es) ≡ cond (start + count_by kind es + 1 == n) (shown (length es) e) None
  numbered_last es e = rw (without_last es e) (rw (last_event es e) refl)

  -- the search for a number finds what it found, or the last event
  numbered_grows : (es : List Event) (e : Event) → earliest (numbered_at kind shown start (es ++ e ∷ []) n) (length (es ++ e ∷ []))
      ≡ option_or (earliest (numbered_at kind shown start es n) (length es)) (cond (start + count_by kind es + 1 == n) (shown (length es) e) None)
  unfolding earliest
  numbered_grows es e =
      let longer : length (es ++ e ∷ []) ≡ suc (length es) = length-append es (e ∷ []) ∙ omega arith in
      let same = earliest_same (numbered_at kind shown start (es ++ e ∷ []) n) (numbered_at kind shown start es n) (length es) (λ i within. numbered_same es e i within) in
      rw longer (rw same (ap (option_or (earliest (numbered_at kind shown start es n) (length es))) (numbered_last es e)))

-- one event more leaves the opening of a scope, or is it
pub opening_grows : (h : History) (e : Event) (s : ℕ) → opening (followed h e) s ≡ option_or (opening h s) (cond (scopes h + 1 == s) (opening_of (length h.events) e) None)
unfolding opening
opening_grows h e s = numbered_grows is_open opening_of h.base.scopes s h.events e

-- one event more leaves the forking of a task, or is it
pub forking_grows : (h : History) (e : Event) (k : ℕ) → forking (followed h e) k ≡ option_or (forking h k) (cond (tasks h + 1 == k) (forking_of (length h.events) e) None)
unfolding forking
forking_grows h e k = numbered_grows is_fork forking_of h.base.tasks k h.events e

-- an event of another kind opens nothing
pub no_opening : (i : ℕ) (e : Event) → is_open e ≡ false → opening_of i e ≡ None
no_opening i (Open actor policy options) other = absurd cc
no_opening i _ other = refl

-- an event of another kind forks nothing
pub no_forking : (i : ℕ) (e : Event) → is_fork e ≡ false → forking_of i e ≡ None
no_forking i (Fork actor scope label) other = absurd cc
no_forking i _ other = refl

-- an event that opens a scope closes none
pub opening_ends_none : (i : ℕ) (e : Event) (o : Opening) (s : ℕ) → opening_of i e ≡ Some o → ends s e ≡ false
opening_ends_none i (Open actor policy options) o s is = refl
opening_ends_none i _ o s is = absurd cc

or_nothing : {A : Type 0} (b : Bool) (o p : Option A) → p ≡ None → option_or o (cond b p None) ≡ o
or_nothing true o p none = ap (option_or o) none ∙ option_or-none o
or_nothing false o p none = option_or-none o

-- an event that opens nothing leaves every opening
pub opening_same : (h : History) (e : Event) (s : ℕ) → is_open e ≡ false → opening (followed h e) s ≡ opening h s
opening_same h e s other = opening_grows h e s ∙ or_nothing (scopes h + 1 == s) (opening h s) (opening_of (length h.events) e) (no_opening (length h.events) e other)

-- an event that forks nothing leaves every forking
pub forking_same : (h : History) (e : Event) (k : ℕ) → is_fork e ≡ false → forking (followed h e) k ≡ forking h k
forking_same h e k other = forking_grows h e k ∙ or_nothing (tasks h + 1 == k) (forking h k) (forking_of (length h.events) e) (no_forking (length h.events) e other)

other_number : {A : Type 0} (m n : ℕ) (o p : Option A) → m ≢ n → option_or o (cond (m == n) p None) ≡ o
other_number m n o p other = rw (ne_eqb m n other) (option_or-none o)

-- only the next number gets an opening
pub opening_other : (h : History) (e : Event) (s : ℕ) → scopes h + 1 ≢ s → opening (followed h e) s ≡ opening h s
opening_other h e s other = opening_grows h e s ∙ other_number (scopes h + 1) s (opening h s) (opening_of (length h.events) e) other

-- only the next number gets a forking
pub forking_other : (h : History) (e : Event) (k : ℕ) → tasks h + 1 ≢ k → forking (followed h e) k ≡ forking h k
forking_other h e k other = forking_grows h e k ∙ other_number (tasks h + 1) k (forking h k) (forking_of (length h.events) e) other

either_found : {A : Type 0} (o p : Option A) (x : A) → option_or o p ≡ Some x → (o ≡ Some x) ⊎ (p ≡ Some x)
either_found None p x is = inr is
either_found (Some y) p x is = inl is

-- what has a number had it before, or is the new one, which has the next
numbered_split : {A : Type 0} (n k : ℕ) (old new : Option A) (x : A) → option_or old (cond (n == k) new None) ≡ Some x → (old ≡ Some x) ⊎ ((k ≡ n) × (new ≡ Some x))
numbered_split n k old new x is =
    elim (either_found old (cond (n == k) new None) x is) [ inl there ↦ inl there | inr now ↦ let it = if_some (n == k) new x now in inr (sym (eqb-true _ _ it.0), it.1) ]

-- what is opened after one event more was so before, or the event opened it
pub opening_split : (h : History) (e : Event) (s : ℕ) (o : Opening) → opening (followed h e) s ≡ Some o → (opening h s ≡ Some o) ⊎ ((s ≡ scopes h + 1) × (opening_of (length h.events) e ≡ Some o))
opening_split h e s o is = numbered_split (scopes h + 1) s (opening h s) (opening_of (length h.events) e) o (sym (opening_grows h e s) ∙ is)

-- what is forked after one event more was so before, or the event forked it
pub forking_split : (h : History) (e : Event) (k : ℕ) (f : Forking) → forking (followed h e) k ≡ Some f → (forking h k ≡ Some f) ⊎ ((k ≡ tasks h + 1) × (forking_of (length h.events) e ≡ Some f))
forking_split h e k f is = numbered_split (tasks h + 1) k (forking h k) (forking_of (length h.events) e) f (sym (forking_grows h e k) ∙ is)

-- a scope is joined after one event more if it was so before, or the event joins it
pub joined_grows : (h : History) (e : Event) (s : ℕ) → joined (followed h e) s ≡ (joined h s || joins s e)
unfolding joined
joined_grows h e s = list_any-push (joins s) h.events e

-- a scope is closed after one event more if it was so before, or the event closes it
pub closed_grows : (h : History) (e : Event) (s : ℕ) → closed (followed h e) s ≡ (closed h s || ends s e)
unfolding closed
closed_grows h e s = list_any-push (ends s) h.events e

-- a task is rejected after one event more if it was so before, or the event rejects it
pub rejected_grows : (h : History) (e : Event) (k : ℕ) → rejected (followed h e) k ≡ (rejected h k || rejects k e)
unfolding rejected
rejected_grows h e k = list_any-push (rejects k) h.events e

-- a task is started after one event more if it was so before, or the event starts it
pub started_grows : (h : History) (e : Event) (k : ℕ) → started (followed h e) k ≡ (started h k || starts k e)
unfolding started
started_grows h e k = list_any-push (starts k) h.events e

-- a task has finished after one event more if it had before, or the event finishes it
pub finished_grows : (h : History) (e : Event) (k : ℕ) → finished (followed h e) k ≡ (finished h k || finishes k e)
unfolding finished
finished_grows h e k = list_any-push (finishes k) h.events e

closing_earlier : (h : History) (e : Event) (s i : ℕ) → i < length h.events → closing_at (followed h e) s i ≡ closing_at h s i
closing_earlier h e s i within = rw (before_push h e i (omega arith)) (rw (get_push h.events e i within) refl)

closing_last : (h : History) (e : Event) (s : ℕ) → closing_at (followed h e) s (length h.events) ≡ begins_closing h s e
closing_last h e s = rw (before_last h e) (rw (last_event h.events e) refl)

-- a scope is closing after one event more if it was so before, or the event begins its close
pub closing_grows : (h : History) (e : Event) (s : ℕ) → closing (followed h e) s ≡ (closing h s || begins_closing h s e)
unfolding closing
closing_grows h e s =
    let same = some_below_same (closing_at (followed h e) s) (closing_at h s) (length h.events) (λ i within. closing_earlier h e s i within) in
    rw (longer_by_one h.events e) (some_below_more (closing_at (followed h e) s) (length h.events)
    ∙ (ap (λ b. b || closing_at (followed h e) s (length h.events)) same ∙ ap (λ b. some_below (closing_at h s) (length h.events) || b) (closing_last h e s)))

or_stays : (a b c : Bool) → a ≡ (b || c) → b ≡ true → a ≡ true
or_stays a true c is so = is
or_stays a false c is so = absurd cc

-- a closed scope stays closed
pub closed_stays : (h : History) (e : Event) (s : ℕ) → closed h s ≡ true → closed (followed h e) s ≡ true
closed_stays h e s so = or_stays (closed (followed h e) s) (closed h s) (ends s e) (closed_grows h e s) so

-- a closing scope stays closing
pub closing_stays : (h : History) (e : Event) (s : ℕ) → closing h s ≡ true → closing (followed h e) s ≡ true
closing_stays h e s so = or_stays (closing (followed h e) s) (closing h s) (begins_closing h s e) (closing_grows h e s) so

-- a joined scope stays joined
pub joined_stays : (h : History) (e : Event) (s : ℕ) → joined h s ≡ true → joined (followed h e) s ≡ true
joined_stays h e s so = or_stays (joined (followed h e) s) (joined h s) (joins s e) (joined_grows h e s) so

either_true : (b c : Bool) → (b || c) ≡ true → (b ≡ true) ⊎ (c ≡ true)
either_true true c is = inl refl
either_true false c is = inr is

-- what is closed after one event more was so before, or the event closed it
pub closed_split : (h : History) (e : Event) (s : ℕ) → closed (followed h e) s ≡ true → (closed h s ≡ true) ⊎ (ends s e ≡ true)
closed_split h e s so = either_true (closed h s) (ends s e) (sym (closed_grows h e s) ∙ so)

-- what is unclosed after one event more was so before
pub unclosed_earlier : (h : History) (e : Event) (s : ℕ) → closed (followed h e) s ≡ false → closed h s ≡ false
unclosed_earlier h e s so = or_left (closed h s) (ends s e) (sym (closed_grows h e s) ∙ so)

later_append : (P : History → Type 0) → ((g : History) (e : Event) → P g → P (followed g e)) → (h : History) (more : List Event) → P h → P (record { base = h.base; events = h.events ++ more })
later_append P kept h [] so = subst (λ (es : List Event). P (record { base = h.base; events = es })) (sym (append-nil h.events)) so
later_append P kept h (e ∷ more) so =
    subst (λ (es : List Event). P (record { base = h.base; events = es })) (append_assoc h.events (e ∷ []) more) (later_append P kept (followed h e) more (kept h e so))

-- what each event more keeps holds of the whole history if it held before a place
pub later : (P : History → Type 0) → ((g : History) (e : Event) → P g → P (followed g e)) → (h : History) (n : ℕ) → P (before h n) → P h
later P kept h n so =
    subst (λ (es : List Event). P (record { base = h.base; events = es })) (take-append-drop n h.events) (later_append P kept (before h n) (drop n h.events) so)

-- an opening before a place is one of the whole history
pub opening_later : (h : History) (n s : ℕ) (o : Opening) → opening (before h n) s ≡ Some o → opening h s ≡ Some o
opening_later h n s o is = later (λ g. opening g s ≡ Some o) (λ g e was. opening_stays g e s o was) h n is

-- a forking before a place is one of the whole history
pub forking_later : (h : History) (n k : ℕ) (f : Forking) → forking (before h n) k ≡ Some f → forking h k ≡ Some f
forking_later h n k f is = later (λ g. forking g k ≡ Some f) (λ g e was. forking_stays g e k f was) h n is

-- a prefix that is longer by one is the shorter one with the event there
before_next : (h : History) (n : ℕ) (e : Event) → slice_get h.events n ≡ Some e → before h (n + 1) ≡ followed (before h n) e
before_next h n e at = ap (λ es. record { base = h.base; events = es }) (take_at h.events n e at)

module _ (L : Limits) (P : History → Type 0) (start : (b : Origin) → P (record { base = b; events = [] })) (step : (h : History) (e : Event) → Legal L h → Accepts L h e → P h → P (followed h e)) where
  before_each : (h : History) (n : ℕ) → n ≤ length h.events → Legal L h → P (before h n)
  unfolding Legal
  before_each h zero within legal = start h.base
  before_each h (suc n) within legal =
      let here = entry_at h.events n (omega arith) in
      let next = before_next h n here.0 here.1 in
      let so = step (before h n) here.0 (legal_before L h n legal) (legal n here.0 here.1) (before_each h n (omega arith) legal) in
      rw (add-one n) at (subst (λ (g : History). P g) (sym next) so)

  -- what holds of each base, and is kept by each accepted event, holds of each legal history
  pub along : (h : History) → Legal L h → P h
  along h legal = subst (λ (g : History). P g) (before_all h (length h.events) (omega arith)) (before_each h (length h.events) (omega arith) legal)
