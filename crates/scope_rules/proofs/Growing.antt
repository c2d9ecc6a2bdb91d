-- What a history says of a prefix of it, and how it goes on.
use Rattle.std.proofs.Common.{[], ℕ, ◌++◌, ◌+◌, ◌<◌, ◌==◌, ◌∙◌, ◌∷◌, ◌≡◌, ◌≤◌, Bool, List, Option, Some, ap, arith, count_by, length, length-append, refl, slice_get, suc, sym, take}
use Rattle.scope_rules.specs.{Event, Fork, Forking, History.History, History.scopes, History.tasks, Opening, OwnCancel, before, declared.types.events.Event.TheVariants.Open, earliest, followed, forking, forking_of, is_fork}
use Rattle.scope_rules.specs.{is_open, numbered_at, opening, opening_of, option_and_then, option_or, own, own_at}
use Rattle.scope_rules.proofs.Words.{eqb-true, take-append-le}
use Rattle.scope_rules.proofs.{Openings.and_then_some, Openings.if_some, Owing.count_push, Prefixes.get_push, Pushing.before_push, Searching.earliest_kept, Searching.earliest_same, Searching.earliest_where}

own_at_push : (h : History) (e : Event) (s i : ℕ) → i < length h.events → own_at (followed h e) s i ≡ own_at h s i
unfolding own_at
own_at_push h e s i within =
    rw (before_push h e i (omega arith)) (rw (before_push h e (i + 1) (omega arith)) (rw (get_push h.events e i within) refl))

-- one event more gives an own cancel, or leaves it
pub own_grows : (h : History) (e : Event) (s : ℕ) → own (followed h e) s ≡ option_or (own h s) (own_at (followed h e) s (length h.events))
unfolding own earliest
own_grows h e s =
    let longer : length (h.events ++ e ∷ []) ≡ suc (length h.events) = length-append h.events (e ∷ []) ∙ omega arith in
    rw longer (rw (earliest_same (own_at (followed h e) s) (own_at h s) (length h.events) (λ i within. own_at_push h e s i within)) refl)

pub own_stays : (h : History) (e : Event) (s : ℕ) (w : OwnCancel) → own h s ≡ Some w → own (followed h e) s ≡ Some w
own_stays h e s w is = own_grows h e s ∙ ap (λ o. option_or o (own_at (followed h e) s (length h.events))) is

module _ {R : Type 0} (kind : Event → Bool) (shown : ℕ → Event → Option R) (start : ℕ) (n : ℕ) where
  numbered_at_push : (es : List Event) (e : Event) (i : ℕ) → i < length es → numbered_at kind shown start (es ++ e ∷ []) n i ≡ numbered_at kind shown start es n i
  numbered_at_push es e i within =
      rw (take-append-le i es (e ∷ []) (omega arith)) (rw (get_push es e i within) refl)

  -- what has the number in a list has it in a longer one
  pub numbered_stays : (es : List Event) (e : Event) (x : R) → earliest (numbered_at kind shown start es n) (length es) ≡ Some x → earliest (numbered_at kind shown start (es ++ e ∷ []) n) (length (es ++ e ∷ [])) ≡ Some x
  numbered_stays es e x is =
      let same = earliest_same (numbered_at kind shown start (es ++ e ∷ []) n) (numbered_at kind shown start es n) (length es) (λ i within. numbered_at_push es e i within) in
      let longer : 1 + length es ≡ length (es ++ e ∷ []) = omega (arith, length-append es (e ∷ [])) in
      rw longer at (earliest_kept (numbered_at kind shown start (es ++ e ∷ []) n) x (length es) 1 (same ∙ is))

pub opening_stays : (h : History) (e : Event) (s : ℕ) (o : Opening) → opening h s ≡ Some o → opening (followed h e) s ≡ Some o
unfolding opening
opening_stays h e s o is = numbered_stays is_open opening_of h.base.scopes s h.events e o is

pub forking_stays : (h : History) (e : Event) (k : ℕ) (f : Forking) → forking h k ≡ Some f → forking (followed h e) k ≡ Some f
unfolding forking
forking_stays h e k f is = numbered_stays is_fork forking_of h.base.tasks k h.events e f is

pub numbers_grow : (h : History) (e : Event) → (scopes h ≤ scopes (followed h e)) × (tasks h ≤ tasks (followed h e))
numbers_grow h e = (omega (arith, count_push is_open h.events e), omega (arith, count_push is_fork h.events e))

-- what stands at the place of a number
pub numbered_entry : {R : Type 0} (kind : Event → Bool) (shown : ℕ → Event → Option R) (start n : ℕ) (es : List Event) (x : R) → earliest (numbered_at kind shown start es n) (length es) ≡ Some x
    → (i : ℕ) × (e : Event) × (slice_get es i ≡ Some e) × (shown i e ≡ Some x) × (n ≡ start + count_by kind (take i es) + 1)
numbered_entry kind shown start n es x found =
    let there = earliest_where (numbered_at kind shown start es n) x (length es) found in
    let test = if_some (start + count_by kind (take there.0 es) + 1 == n) (option_and_then (shown there.0) (slice_get es there.0)) x there.2 in
    let entry = and_then_some (shown there.0) (slice_get es there.0) x test.1 in
    (there.0, entry.0, entry.1, entry.2, sym (eqb-true _ _ test.0))

pub opening_place : (i : ℕ) (e : Event) (o : Opening) → opening_of i e ≡ Some o → o.place ≡ i
opening_place i (Open actor policy options) o is = let same : record { place = i; actor = actor; policy = policy; options = options } ≡ o = cc in sym (ap (λ (x : Opening). x.place) same)
opening_place i _ o is = absurd cc

pub forking_place : (i : ℕ) (e : Event) (f : Forking) → forking_of i e ≡ Some f → f.place ≡ i
forking_place i (Fork actor scope label) f is = let same : record { place = i; actor = actor; scope = scope; label = label } ≡ f = cc in sym (ap (λ (x : Forking). x.place) same)
forking_place i _ f is = absurd cc

-- the number of an opening is one more than those given before its place
pub opening_number : (h : History) (s : ℕ) (o : Opening) → opening h s ≡ Some o → s ≡ scopes (before h o.place) + 1
unfolding opening
opening_number h s o is =
    let it = numbered_entry is_open opening_of h.base.scopes s h.events o is in
    it.4 ∙ ap (λ i. scopes (before h i) + 1) (sym (opening_place it.0 it.1 o it.3))

pub forking_number : (h : History) (k : ℕ) (f : Forking) → forking h k ≡ Some f → k ≡ tasks (before h f.place) + 1
unfolding forking
forking_number h k f is =
    let it = numbered_entry is_fork forking_of h.base.tasks k h.events f is in
    it.4 ∙ ap (λ i. tasks (before h i) + 1) (sym (forking_place it.0 it.1 f it.3))

pub opening_once : (h : History) (s t : ℕ) (o : Opening) → opening h s ≡ Some o → opening h t ≡ Some o → s ≡ t
opening_once h s t o first second = opening_number h s o first ∙ sym (opening_number h t o second)

pub forking_once : (h : History) (k m : ℕ) (f : Forking) → forking h k ≡ Some f → forking h m ≡ Some f → k ≡ m
forking_once h k m f first second = forking_number h k f first ∙ sym (forking_number h m f second)
