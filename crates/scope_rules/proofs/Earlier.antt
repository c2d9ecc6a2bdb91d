-- What was found in a history is found in each prefix that reaches its place, and stays.
use Rattle.std.proofs.Common.{[], ℕ, ◌+◌, ◌-◌, ◌<◌, ◌==◌, ◌∙◌, ◌∷◌, ◌≡◌, ◌≤◌, Bool, List, None, Option, Some, ap, arith, count_by, false, length, refl, slice_get, subst, suc, sym, take, zero}
use Rattle.scope_rules.specs.{Event, Fork, Forking, History.History, History.scopes, History.tasks, Opening, before, closed, declared.types.events.Event.TheVariants.Open, earliest, ends, forking, forking_of, is_fork, is_open}
use Rattle.scope_rules.specs.{list_any, numbered_at, opening, opening_of, option_and_then, option_or}
use Rattle.scope_rules.proofs.Words.{length-take, take-take}
use Rattle.scope_rules.proofs.{Accepted.or_left, Accepted.or_right, Growing.numbered_entry, Openings.and_then_some, Openings.forks_it, Openings.if_some, Openings.numbered_within, Openings.opens_it, Searching.earliest_found}
use Rattle.scope_rules.proofs.{Searching.earliest_kept, Searching.earliest_same}

earliest_first_by : {A : Type 0} (f : ℕ → Option A) (x : A) (n : ℕ) (o : Option A) → earliest f n ≡ o → option_or o (f n) ≡ Some x
    → (earliest f n ≡ Some x → (i : ℕ) × (i < n) × (f i ≡ Some x) × (earliest f i ≡ None)) → (i : ℕ) × (i < suc n) × (f i ≡ Some x) × (earliest f i ≡ None)
earliest_first_by f x n None none found sooner = (n, omega arith, found, none)
earliest_first_by f x n (Some y) some found sooner = let there = sooner (some ∙ found) in (there.0, omega (arith, there.1), there.2, there.3)

-- what was found stands somewhere, with nothing below it
pub earliest_first : {A : Type 0} (f : ℕ → Option A) (x : A) (n : ℕ) → earliest f n ≡ Some x → (i : ℕ) × (i < n) × (f i ≡ Some x) × (earliest f i ≡ None)
unfolding earliest
earliest_first f x zero found = absurd cc
earliest_first f x (suc n) found = earliest_first_by f x n (earliest f n) refl found (earliest_first f x n)

-- an element of a prefix is the list's
pub get_take : {A : Type 0} (xs : List A) (n i : ℕ) → i < n → slice_get (take n xs) i ≡ slice_get xs i
get_take xs zero i within = absurd (omega arith)
get_take [] (suc n) i within = refl
get_take (x ∷ xs) (suc n) zero within = refl
get_take (x ∷ xs) (suc n) (suc i) within = get_take xs n i (omega arith)

module _ {R : Type 0} (kind : Event → Bool) (shown : ℕ → Event → Option R) (start : ℕ) (n : ℕ) where
  numbered_at_prefix : (es : List Event) (k i : ℕ) → i < k → numbered_at kind shown start (take k es) n i ≡ numbered_at kind shown start es n i
  numbered_at_prefix es k i within = rw (take-take i k es (omega arith)) (rw (get_take es k i within) refl)

  -- what has the number in a list has it in each prefix that reaches it
  pub numbered_prefix : (es : List Event) (x : R) → earliest (numbered_at kind shown start es n) (length es) ≡ Some x
      → (i : ℕ) × (e : Event) × (i < length es) × (shown i e ≡ Some x) × ((k : ℕ) → i < k → earliest (numbered_at kind shown start (take k es) n) (length (take k es)) ≡ Some x)
  numbered_prefix es x found =
      let f = numbered_at kind shown start es n in
      let there = earliest_first f x (length es) found in
      let test = if_some (start + count_by kind (take there.0 es) + 1 == n) (option_and_then (shown there.0) (slice_get es there.0)) x there.2 in
      let entry = and_then_some (shown there.0) (slice_get es there.0) x test.1 in (
        there.0,
        entry.0,
        there.1,
        entry.2,
        λ k later.
            let g = numbered_at kind shown start (take k es) n in
            let none = earliest_same g f there.0 (λ i within. numbered_at_prefix es k i (omega (arith, within, later))) ∙ there.3 in
            let here = numbered_at_prefix es k there.0 later ∙ there.2 in
            earliest_found g x there.0 (length (take k es)) none here (rw length-take (omega (arith, there.1, later))),
      )

  -- what has the number in a prefix has it in the list
  pub numbered_whole : (es : List Event) (k : ℕ) (x : R) → earliest (numbered_at kind shown start (take k es) n) (length (take k es)) ≡ Some x → earliest (numbered_at kind shown start es n) (length es) ≡ Some x
  numbered_whole es k x found =
      let f = numbered_at kind shown start es n in
      let g = numbered_at kind shown start (take k es) n in
      let size : length (take k es) ≤ length es = rw length-take (omega arith) in
      let reach : length (take k es) ≤ k = rw length-take (omega arith) in
      let same = earliest_same f g (length (take k es)) (λ i within. sym (numbered_at_prefix es k i (omega (arith, within, reach)))) in
      let gap : (length es - length (take k es)) + length (take k es) ≡ length es = omega (arith, size) in
      rw gap at (earliest_kept f x (length (take k es)) (length es - length (take k es)) (same ∙ found))

-- what an opening shows
pub opening_shown : (i : ℕ) (e : Event) (o : Opening) → opening_of i e ≡ Some o → (o.place ≡ i) × (e ≡ Open o.actor o.policy o.options)
opening_shown i (Open actor policy options) o is =
    let same : record { place = i; actor = actor; policy = policy; options = options } ≡ o = cc in
    subst (λ (x : Opening). (x.place ≡ i) × (Open actor policy options ≡ Open x.actor x.policy x.options)) same (refl, refl)
opening_shown i _ o is = absurd cc

-- what a forking shows
pub forking_shown : (i : ℕ) (e : Event) (f : Forking) → forking_of i e ≡ Some f → (f.place ≡ i) × (e ≡ Fork f.actor f.scope f.label)
forking_shown i (Fork actor scope label) f is =
    let same : record { place = i; actor = actor; scope = scope; label = label } ≡ f = cc in
    subst (λ (x : Forking). (x.place ≡ i) × (Fork actor scope label ≡ Fork x.actor x.scope x.label)) same (refl, refl)
forking_shown i _ f is = absurd cc

-- the event that shows what has a number stands at its place
shown_event : {R : Type 0} (kind : Event → Bool) (shown : ℕ → Event → Option R) (place : R → ℕ) (event : R → Event) → ((i : ℕ) (e : Event) (x : R) → shown i e ≡ Some x → (place x ≡ i) × (e ≡ event x))
    → (start n : ℕ) (es : List Event) (x : R) → earliest (numbered_at kind shown start es n) (length es) ≡ Some x → slice_get es (place x) ≡ Some (event x)
shown_event kind shown place event shows start n es x found =
    let it = numbered_entry kind shown start n es x found in
    let said = shows it.0 it.1 x it.3 in
    ap (slice_get es) said.0 ∙ (it.2 ∙ ap Some said.1)

-- the event of an opening stands at its place
pub opening_event : (h : History) (s : ℕ) (o : Opening) → opening h s ≡ Some o → slice_get h.events o.place ≡ Some (Open o.actor o.policy o.options)
unfolding opening
opening_event h s o is = shown_event is_open opening_of (λ (x : Opening). x.place) (λ (x : Opening). Open x.actor x.policy x.options) opening_shown h.base.scopes s h.events o is

-- the event of a forking stands at its place
pub forking_event : (h : History) (k : ℕ) (f : Forking) → forking h k ≡ Some f → slice_get h.events f.place ≡ Some (Fork f.actor f.scope f.label)
unfolding forking
forking_event h k f is = shown_event is_fork forking_of (λ (x : Forking). x.place) (λ (x : Forking). Fork x.actor x.scope x.label) forking_shown h.base.tasks k h.events f is

-- what was opened is opened in each prefix that reaches it
pub opening_before : (h : History) (s n : ℕ) (o : Opening) → opening h s ≡ Some o → o.place < n → opening (before h n) s ≡ Some o
unfolding opening
opening_before h s n o is later =
    let it = numbered_prefix is_open opening_of h.base.scopes s h.events o is in
    it.4 n (omega (arith, later, (opening_shown it.0 it.1 o it.3).0))

-- what was forked is forked in each prefix that reaches it
pub forking_before : (h : History) (k n : ℕ) (f : Forking) → forking h k ≡ Some f → f.place < n → forking (before h n) k ≡ Some f
unfolding forking
forking_before h k n f is later =
    let it = numbered_prefix is_fork forking_of h.base.tasks k h.events f is in
    it.4 n (omega (arith, later, (forking_shown it.0 it.1 f it.3).0))

-- what was opened by a place is opened
pub opening_since : (h : History) (s n : ℕ) (o : Opening) → opening (before h n) s ≡ Some o → opening h s ≡ Some o
unfolding opening
opening_since h s n o is = numbered_whole is_open opening_of h.base.scopes s h.events n o is

-- what was forked by a place is forked
pub forking_since : (h : History) (k n : ℕ) (f : Forking) → forking (before h n) k ≡ Some f → forking h k ≡ Some f
unfolding forking
forking_since h k n f is = numbered_whole is_fork forking_of h.base.tasks k h.events n f is

-- an opening stands in the history
pub opening_within : (h : History) (s : ℕ) (o : Opening) → opening h s ≡ Some o → o.place < length h.events
unfolding opening
opening_within h s o is =
    let it = numbered_prefix is_open opening_of h.base.scopes s h.events o is in
    omega (arith, it.2, (opening_shown it.0 it.1 o it.3).0)

-- a forking stands in the history
pub forking_within : (h : History) (k : ℕ) (f : Forking) → forking h k ≡ Some f → f.place < length h.events
unfolding forking
forking_within h k f is =
    let it = numbered_prefix is_fork forking_of h.base.tasks k h.events f is in
    omega (arith, it.2, (forking_shown it.0 it.1 f it.3).0)

-- the numbers of scopes go on from the base's
pub scope_number : (h : History) (s : ℕ) (o : Opening) → opening h s ≡ Some o → (j : ℕ) × (j < count_by is_open h.events) × (s ≡ h.base.scopes + j + 1)
unfolding opening
scope_number h s o is = numbered_within is_open opening_of h.base.scopes h.events s opens_it o is

-- a scope that was opened has a number of those given
pub scope_given : (h : History) (s : ℕ) (o : Opening) → opening h s ≡ Some o → (0 < s) × (s ≤ scopes h)
scope_given h s o is = let it = scope_number h s o is in (omega (arith, it.2), omega (arith, it.1, it.2))

-- a task that was forked has a number of those given
pub task_given : (h : History) (k : ℕ) (f : Forking) → forking h k ≡ Some f → (0 < k) × (k ≤ tasks h)
unfolding forking
task_given h k f is =
    let it = numbered_within is_fork forking_of h.base.tasks h.events k forks_it f is in
    (omega (arith, it.2), omega (arith, it.1, it.2))

list_any_take : (p : Event → Bool) (es : List Event) (n : ℕ) → list_any p es ≡ false → list_any p (take n es) ≡ false
list_any_take p es zero none = refl
list_any_take p [] (suc n) none = refl
list_any_take p (e ∷ es) (suc n) none = rw (or_left (p e) (list_any p es) none) (list_any_take p es n (or_right (p e) (list_any p es) none))

-- what isn't closed was never closed before
pub unclosed_before : (h : History) (s n : ℕ) → closed h s ≡ false → closed (before h n) s ≡ false
unfolding closed
unclosed_before h s n none = list_any_take (ends s) h.events n none

-- a prefix of a prefix is a prefix
pub before_of_before : (h : History) (n i : ℕ) → i ≤ n → before (before h n) i ≡ before h i
before_of_before h n i within = ap (λ es. record { base = h.base; events = es }) (take-take i n h.events within)
