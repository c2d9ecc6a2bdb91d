-- The first place at which something is so, by the tests of the rules; and the places that are kept.
use Rattle.std.proofs.Common.{[], ℕ, ◌+◌, ◌-◌, ◌<◌, ◌==◌, ◌||◌, ◌∙◌, ◌∷◌, ◌≡◌, ◌≤◌, Bool, List, None, Option, Some, add-one, ap, arith, cond, false, get_or, inl, inr, is_some, length, nat_lt, refl, slice_get, subst, suc, sym}
use Rattle.std.proofs.Common.{take, true, zero}
use Rattle.run_times.specs.{Event, Firsts, Forking, HasFirsts, History, Landmark, Opening, before, closed, earliest, ends, finished, finishes, first_place, forked_count, forking, is_named, list_any, named_at, opened_count}
use Rattle.run_times.specs.{opening, option_and_then, option_map_or, option_or, rejected, rejects, started, starts}
use Rattle.run_times.proofs.Words.{and_then_some, earliest_more, earliest_where, eqb-true, forking_number, if_some, le-ltb, list_any-push, lt-ltb, opened_after, slice_get_cases, take_all, take_at, task_given}
use Rattle.scope_rules.specs.declared.types.events.Event.TheVariants as event
use Rattle.run_times.specs.declared.landmarks.Landmark.TheVariants as landmark

some_or : (o p : Option ℕ) → is_some (option_or o p) ≡ (is_some o || is_some p)
some_or None p = refl
some_or (Some x) p = refl

some_cond : (b : Bool) (i : ℕ) → is_some (cond b (Some i) None) ≡ b
some_cond true i = refl
some_cond false i = refl

-- the place, if the test holds of the element there
abbrev found_at : (Event → Bool) → List Event → ℕ → Option ℕ
found_at p xs j = option_and_then (λ x. cond (p x) (Some j) None) (slice_get xs j)

any_step : (p : Event → Bool) (xs : List Event) (i : ℕ) (x : Event) → slice_get xs i ≡ Some x → list_any p (take i xs) ≡ is_some (earliest (found_at p xs) i) → list_any p (take (i + 1) xs) ≡ is_some (earliest (found_at p xs) (i + 1))
any_step p xs i x there sofar =
    ap (list_any p) (take_at xs i x there)
    ∙ list_any-push p (take i xs) x
    ∙ ap (λ b. b || p x) sofar
    ∙ sym (ap is_some (earliest_more (found_at p xs) i)
    ∙ some_or (earliest (found_at p xs) i) (found_at p xs i)
    ∙ ap (λ b. is_some (earliest (found_at p xs) i) || b) (ap (λ (o : Option Event). is_some (option_and_then (λ y. cond (p y) (Some i) None) o)) there ∙ some_cond (p x) i))

-- the test holds of an element before place i just if a place below i is found
pub any_take : (p : Event → Bool) (xs : List Event) (i : ℕ) → i ≤ length xs → list_any p (take i xs) ≡ is_some (earliest (found_at p xs) i)
unfolding earliest
any_take p xs zero within = refl
any_take p xs (suc i) within =
    let P : ℕ → Type 0 = λ n. list_any p (take n xs) ≡ is_some (earliest (found_at p xs) n) in
    elim (slice_get_cases xs i).1 [
      | inl w ↦ subst P (add-one i) (any_step p xs i w.0 w.2 (any_take p xs i (omega arith)))
      | inr w ↦ absurd (omega (arith, w.0))
    ]

-- a place is found below i just if the first of all is below i
lt_by : (p : Event → Bool) (xs : List Event) (i m : ℕ) (o : Option ℕ) → earliest (found_at p xs) m ≡ o → i ≤ m → is_some (earliest (found_at p xs) i) ≡ option_map_or (λ j. nat_lt j i) o false → is_some (earliest (found_at p xs) i) ≡ option_map_or (λ j. nat_lt j i) (option_or o (found_at p xs m)) false
lt_by p xs i m (Some j) is within sofar = sofar
lt_by p xs i m None is within sofar = sofar ∙ late (slice_get xs m)
  where
    late : (o : Option Event) → false ≡ option_map_or (λ j. nat_lt j i) (option_and_then (λ x. cond (p x) (Some m) None) o) false
    late None = refl
    late (Some x) = elim (p x) as (λ b. false ≡ option_map_or (λ j. nat_lt j i) (cond b (Some m) None) false) [ true ↦ sym (le-ltb m i within) | false ↦ refl ]

below_self : (p : Event → Bool) (xs : List Event) (i : ℕ) → is_some (earliest (found_at p xs) i) ≡ option_map_or (λ j. nat_lt j i) (earliest (found_at p xs) i) false
below_self p xs i = by (earliest (found_at p xs) i) refl
  where
    by : (o : Option ℕ) → earliest (found_at p xs) i ≡ o → is_some (earliest (found_at p xs) i) ≡ option_map_or (λ j. nat_lt j i) (earliest (found_at p xs) i) false
    by None is = ap is_some is ∙ sym (ap (λ (o : Option ℕ). option_map_or (λ j. nat_lt j i) o false) is)
    by (Some j) is =
        let w = earliest_where (found_at p xs) j i is in
        let x = and_then_some (λ (y : Event). cond (p y) (Some w.0) None) (slice_get xs w.0) j w.2 in
        let same : w.0 ≡ j = let y = (if_some (p x.0) (Some w.0) j x.2).1 in cc in
        ap is_some is ∙ sym (ap (λ (o : Option ℕ). option_map_or (λ j. nat_lt j i) o false) is ∙ lt-ltb j i (omega (arith, same, w.1)))

found_below : (p : Event → Bool) (xs : List Event) (i d : ℕ) → is_some (earliest (found_at p xs) i) ≡ option_map_or (λ j. nat_lt j i) (earliest (found_at p xs) (i + d)) false
found_below p xs i zero =
    let P : ℕ → Type 0 = λ n. is_some (earliest (found_at p xs) i) ≡ option_map_or (λ j. nat_lt j i) (earliest (found_at p xs) n) false in
    let same : i ≡ i + 0 = omega arith in
    subst P same (below_self p xs i)
found_below p xs i (suc d) =
    let P : ℕ → Type 0 = λ n. is_some (earliest (found_at p xs) i) ≡ option_map_or (λ j. nat_lt j i) (earliest (found_at p xs) n) false in
    let same : (i + d) + 1 ≡ i + suc d = omega arith in
    subst P same
    (lt_by p xs i (i + d) (earliest (found_at p xs) (i + d)) refl (omega arith) (found_below p xs i d)
    ∙ ap (λ (o : Option ℕ). option_map_or (λ j. nat_lt j i) o false) (sym (earliest_more (found_at p xs) (i + d))))

ends_named : (s : ℕ) (e : Event) → ends s e ≡ is_named landmark.Closed s e
ends_named s (event.EndClose actor scope) = refl
ends_named s _ = refl

pub any_alike : (p q : Event → Bool) (xs : List Event) → ((x : Event) → p x ≡ q x) → list_any p xs ≡ list_any q xs
any_alike p q [] alike = refl
any_alike p q (x ∷ xs) alike = ap (λ b. b || list_any p xs) (alike x) ∙ ap (λ b. q x || b) (any_alike p q xs alike)

-- a scope is closed before a place just if the first place at which it is closed is below
pub closed_at_place : (h : History) (s p : ℕ) → p ≤ length h.events → closed (before h p) s ≡ option_map_or (λ j. nat_lt j p) (first_place landmark.Closed h.events s) false
unfolding closed first_place
closed_at_place h s p within =
    let whole : p + (length h.events - p) ≡ length h.events = omega arith in
    any_alike (ends s) (is_named landmark.Closed s) (take p h.events) (ends_named s)
    ∙ any_take (is_named landmark.Closed s) h.events p within
    ∙ found_below (is_named landmark.Closed s) h.events p (length h.events - p)
    ∙ ap (λ n. option_map_or (λ j. nat_lt j p) (earliest (found_at (is_named landmark.Closed s) h.events) n) false) whole

-- a scope is closed just if a place is found at which it is
pub closed_anywhere : (h : History) (s : ℕ) → is_some (first_place landmark.Closed h.events s) ≡ closed h s
unfolding closed first_place
closed_anywhere h s =
    sym (any_take (is_named landmark.Closed s) h.events (length h.events) (omega arith))
    ∙ ap (list_any (is_named landmark.Closed s)) (take_all (length h.events) h.events (omega arith))
    ∙ sym (any_alike (ends s) (is_named landmark.Closed s) h.events (ends_named s))

-- the place that is kept for a scope is the first one
pub kept_first : (h : History) (closes : Firsts) (s : ℕ) (o : Option ℕ) → HasFirsts closes landmark.Closed h.events h.base.scopes (opened_count h) → is_some (opening h s) ≡ true → ((k : ℕ) → s ≡ closes.before + 1 + k → k < length closes.places.items → o ≡ get_or closes.places.items k None) → o ≡ first_place landmark.Closed h.events s
kept_first h closes s o has there is = by (opening h s) refl there
  where
    by : (x : Option Opening) → opening h s ≡ x → is_some x ≡ true → o ≡ first_place landmark.Closed h.events s
    by None opened some = absurd cc
    by (Some x) opened some =
        let it = opened_after h s x opened in
        is it.0 (omega (arith, it.2, has.from)) (omega (arith, it.1, has.long)) ∙ has.each it.0 it.1 ∙ ap (first_place landmark.Closed h.events) it.2

-- where an opened scope stands among those since the base
pub index_of : (h : History) (s : ℕ) → is_some (opening h s) ≡ true → (n : ℕ) × (n < opened_count h) × (h.base.scopes + 1 + n ≡ s)
index_of h s there = by (opening h s) refl there
  where
    by : (x : Option Opening) → opening h s ≡ x → is_some x ≡ true → (n : ℕ) × (n < opened_count h) × (h.base.scopes + 1 + n ≡ s)
    by None opened some = absurd cc
    by (Some x) opened some = opened_after h s x opened

-- ---- where a task started and ended

either : (k : ℕ) (e : Event) → is_named landmark.Ended k e ≡ (rejects k e || finishes k e)
either k (event.Reject task) = elim (task == k) as (λ b. b ≡ (b || false)) [ true ↦ refl | false ↦ refl ]
either k (event.Finish task end) = refl
either k _ = refl

any_either : (p q : Event → Bool) (xs : List Event) → list_any (λ x. p x || q x) xs ≡ (list_any p xs || list_any q xs)
any_either p q [] = refl
any_either p q (x ∷ xs) = ap (λ b. (p x || q x) || b) (any_either p q xs) ∙ mix (p x) (q x) (list_any p xs) (list_any q xs)
  where
    mix : (a b c e : Bool) → ((a || b) || (c || e)) ≡ ((a || c) || (b || e))
    mix true b c e = refl
    mix false true true e = refl
    mix false true false e = refl
    mix false false c e = refl

-- a place is found if a task ended just if it was rejected or finished
pub ended_is : (h : History) (k : ℕ) → is_some (first_place landmark.Ended h.events k) ≡ (rejected h k || finished h k)
unfolding first_place rejected finished
ended_is h k =
    sym (any_take (is_named landmark.Ended k) h.events (length h.events) (omega arith))
    ∙ ap (list_any (is_named landmark.Ended k)) (take_all (length h.events) h.events (omega arith))
    ∙ any_alike (is_named landmark.Ended k) (λ e. rejects k e || finishes k e) h.events (either k)
    ∙ any_either (rejects k) (finishes k) h.events

-- and that it started just if a start is found
start_named : (k : ℕ) (e : Event) → is_named landmark.Started k e ≡ starts k e
start_named k (event.Start task) = refl
start_named k _ = refl

pub started_is : (h : History) (k : ℕ) → is_some (first_place landmark.Started h.events k) ≡ started h k
unfolding first_place started
started_is h k =
    sym (any_take (is_named landmark.Started k) h.events (length h.events) (omega arith))
    ∙ ap (list_any (is_named landmark.Started k)) (take_all (length h.events) h.events (omega arith))
    ∙ any_alike (is_named landmark.Started k) (starts k) h.events (start_named k)

pub placed : (m : Landmark) (es : List Event) (n i : ℕ) → first_place m es n ≡ Some i → (e : Event) × (slice_get es i ≡ Some e) × (is_named m n e ≡ true)
unfolding first_place
placed m es n i is =
    let at = earliest_where (named_at m es n) i (length es) is in
    let it = and_then_some (λ (e : Event). cond (is_named m n e) (Some at.0) None) (slice_get es at.0) i at.2 in
    let so = if_some (is_named m n it.0) (Some at.0) i it.2 in
    let same : at.0 ≡ i = let x = so.1 in cc in
    (it.0, ap (slice_get es) (sym same) ∙ it.1, so.0)

pub start_is : (k : ℕ) (e : Event) → is_named landmark.Started k e ≡ true → e ≡ event.Start k
start_is k (event.Start task) so = ap event.Start (eqb-true task k so)
start_is k _ so = absurd cc

pub ended_named : (k : ℕ) (e : Event) → is_named landmark.Ended k e ≡ true → (rejects k e || finishes k e) ≡ true
ended_named k (event.Reject task) so = ap (λ b. b || false) so
ended_named k (event.Finish task end) so = so
ended_named k _ so = absurd cc

pub closed_named : (s : ℕ) (e : Event) → is_named landmark.Closed s e ≡ true → ends s e ≡ true
closed_named s (event.EndClose actor scope) so = so
closed_named s _ so = absurd cc

pub started_named : (k : ℕ) (e : Event) → is_named landmark.Started k e ≡ true → starts k e ≡ true
started_named k (event.Start task) so = so
started_named k _ so = absurd cc

-- ---- the places that are kept

-- the place that is kept for a number is the first one
pub kept_place : (firsts : Firsts) (mark : Landmark) (events : List Event) (before count n k : ℕ) (o : Option ℕ) → HasFirsts firsts mark events before count → k ≡ before + 1 + n → n < count → ((i : ℕ) → k ≡ firsts.before + 1 + i → i < length firsts.places.items → o ≡ get_or firsts.places.items i None) → o ≡ first_place mark events k
kept_place firsts mark events before count n k o has numbered small is =
    is n (omega (arith, numbered, has.from)) (omega (arith, small, has.long)) ∙ has.each n small ∙ ap (first_place mark events) (sym numbered)

-- where a forked task stands among those since the base
pub task_index : (h : History) (k : ℕ) → is_some (forking h k) ≡ true → (n : ℕ) × (n < forked_count h) × (k ≡ h.base.tasks + 1 + n)
task_index h k there = by (forking h k) refl there
  where
    by : (x : Option Forking) → forking h k ≡ x → is_some x ≡ true → (n : ℕ) × (n < forked_count h) × (k ≡ h.base.tasks + 1 + n)
    by None forked some = absurd cc
    by (Some x) forked some =
        let number = forking_number h k x forked in
        let given = task_given h k x forked in
        (forked_count (before h x.place), omega (arith, number, given.1), omega (arith, number))
