-- The searches for the n-th Open and the n-th Fork, which go on with a running number.
use Rattle.std.proofs.Common.{ℕ, ◌+◌, ◌<◌, ◌==◌, ◌≡◌, ◌≢◌, ◌≤◌, Bool, List, None, Option, Some, arith, cond, count_by, false, length, refl, slice_get, sym, take, true}
use Rattle.scope_rules.specs.{Event, Fork, Forking, Opening, declared.types.events.Event.TheVariants.Open, earliest, forking_of, is_fork, is_open, numbered_at, opening_of, option_and_then}
use Rattle.scope_rules.proofs.Words.{eq-eqb, eqb-true, ne_eqb}
use Rattle.scope_rules.proofs.{Prefixes.count_by-take-le, Prefixes.count_by_at_no, Prefixes.count_by_at_yes, Searching.earliest_found, Searching.earliest_none_step, Searching.earliest_where}

abbrev cond_same : {A : Type 0} (b : Bool) → {x : A} → cond b x x ≡ x
cond_same true = refl
cond_same false = refl

module _ {R : Type 0} (kind : Event → Bool) (shown : ℕ → Event → Option R) (start : ℕ) (es : List Event) (n : ℕ) where
  -- the search so far, with the running number
  pub record Searched (i number : ℕ) : Type 0 where
    pub none : earliest (numbered_at kind shown start es n) i ≡ None
    pub count : number ≡ start + count_by kind (take i es)
    pub bound : number ≤ start + i

  pub searched_none : Searched 0 start
  unfolding earliest
  searched_none = record { none = refl; count = omega arith; bound = omega arith }

  pub searched_at : (number : ℕ) → number ≡ start → Searched 0 number
  searched_at number is = rw is searched_none

  -- the event there is of another kind
  pub searched_other : (i number : ℕ) (e : Event) → Searched i number → slice_get es i ≡ Some e → shown i e ≡ None → kind e ≡ false → Searched (i + 1) number
  searched_other i number e so at not other =
      let here : numbered_at kind shown start es n i ≡ None = rw at (rw not (cond_same (start + count_by kind (take i es) + 1 == n))) in
      let step = count_by_at_no kind es i e at other in
      record {
        none = earliest_none_step (numbered_at kind shown start es n) i so.none here;
        count = omega (arith, so.count);
        bound = omega (arith, so.bound);
      }

  -- the event there is of the kind, with another number
  pub searched_wrong : (i number : ℕ) (e : Event) → Searched i number → slice_get es i ≡ Some e → kind e ≡ true → number + 1 ≢ n → Searched (i + 1) (number + 1)
  searched_wrong i number e so at of_kind wrong =
      let apart : (start + count_by kind (take i es) + 1 == n) ≡ false = ne_eqb _ _ (λ same. wrong (rw so.count same)) in
      let here : numbered_at kind shown start es n i ≡ None = rw apart refl in
      let step = count_by_at_yes kind es i e at of_kind in
      record {
        none = earliest_none_step (numbered_at kind shown start es n) i so.none here;
        count = omega (arith, so.count);
        bound = omega (arith, so.bound);
      }

  -- the event there is the one
  pub searched_found : (i number : ℕ) (e : Event) (x : R) → Searched i number → slice_get es i ≡ Some e → shown i e ≡ Some x → number + 1 ≡ n → i < length es → earliest (numbered_at kind shown start es n) (length es) ≡ Some x
  searched_found i number e x so at is right within =
      let same : (start + count_by kind (take i es) + 1 == n) ≡ true = eq-eqb _ _ (rw so.count at right) in
      let here : numbered_at kind shown start es n i ≡ Some x = rw same (rw at is) in
      earliest_found (numbered_at kind shown start es n) x i (length es) so.none here within

  -- there is no event left
  pub searched_all : (i number : ℕ) → Searched i number → i ≡ length es → earliest (numbered_at kind shown start es n) (length es) ≡ None
  searched_all i number so all = rw all at so.none

pub and_then_some : {A B : Type 0} (f : A → Option B) (o : Option A) (x : B) → option_and_then f o ≡ Some x → (a : A) × (o ≡ Some a) × (f a ≡ Some x)
and_then_some f None x is = absurd cc
and_then_some f (Some a) x is = (a, refl, is)

pub if_some : {A : Type 0} (b : Bool) (o : Option A) (x : A) → cond b o None ≡ Some x → (b ≡ true) × (o ≡ Some x)
if_some true o x is = (refl, is)
if_some false o x is = absurd cc

module _ {R : Type 0} (kind : Event → Bool) (shown : ℕ → Event → Option R) (start : ℕ) (es : List Event) (n : ℕ) (of_kind : (i : ℕ) (e : Event) (x : R) → shown i e ≡ Some x → kind e ≡ true) where
  numbered_place : (x : R) (i : ℕ) → numbered_at kind shown start es n i ≡ Some x → (count_by kind (take i es) < count_by kind es) × (n ≡ start + count_by kind (take i es) + 1)
  numbered_place x i here =
      let test = if_some (start + count_by kind (take i es) + 1 == n) (option_and_then (shown i) (slice_get es i)) x here in
      let there = and_then_some (shown i) (slice_get es i) x test.1 in
      let more = count_by_at_yes kind es i there.0 there.1 (of_kind i there.0 x there.2) in
      let within = count_by-take-le kind es (i + 1) in
      (omega arith, sym (eqb-true _ _ test.0))

  -- a number that was given is one of those after the start
  pub numbered_within : (x : R) → earliest (numbered_at kind shown start es n) (length es) ≡ Some x → (j : ℕ) × (j < count_by kind es) × (n ≡ start + j + 1)
  numbered_within x found =
      let there = earliest_where (numbered_at kind shown start es n) x (length es) found in
      let place = numbered_place x there.0 there.2 in
      (count_by kind (take there.0 es), place.0, place.1)

-- what gives an opening is an Open
pub opens_it : (i : ℕ) (e : Event) (o : Opening) → opening_of i e ≡ Some o → is_open e ≡ true
opens_it i (Open actor policy options) o is = refl
opens_it i _ o is = absurd cc

-- what gives a forking is a Fork
pub forks_it : (i : ℕ) (e : Event) (f : Forking) → forking_of i e ≡ Some f → is_fork e ≡ true
forks_it i (Fork actor scope label) f is = refl
forks_it i _ f is = absurd cc
