-- In a legal history a scope begins to close as its own close does, or as what its owner had open around it does.
use Rattle.std.specs.Prelude.{◌&&◌, ◌+◌, ◌<◌, ◌==◌, ◌||◌, ◌≡◌, ◌≢◌, ◌≤◌, ◌⊎◌}
use Rattle.run_picture.specs.{ℕ, Accepts, BeginClose, Bool, Event, History, Landmark, Legal, Limits, None, Open, Opening, Option, Some, around, before}
use Rattle.run_picture.specs.{begins_closing, begins_to_close, closed, closing, closing_at, closing_place, closing_within, cond, covered_at, covers, earliest, false, first_place, forked_in}
use Rattle.run_picture.specs.{have_one_opener, in_closing, innermost, is_named, is_some, length, named_at, nat_lt, not, opened_count, opening, option_and_then, option_map_or, option_or, own_around}
use Rattle.run_picture.specs.{parent, row_check, slice_get, some_below, sooner, suc, surrounding, true, zero}
use Rattle.run_picture.proofs.Lemmas.{◌∙◌, HasUnclosed, and_parts, and_then_some, ap, arith, before_of_before, begin_close_passed, below_some, below_where, both_ways, cases_eq, cases_lt}
use Rattle.run_picture.proofs.Lemmas.{checks_at, closed_is_closing, eq-eqb, eqb-true, false_from_ne_true, get_take, if_some, inl, inner_closed, innermost_unclosed, inr, legal_before, length-take}
use Rattle.run_picture.proofs.Lemmas.{live_is_unclosed, lt-ltb, ltb-true, not-true, not_refused, opening_before, opening_event, opening_number, opening_since, opening_within, or_cases, or_left}
use Rattle.run_picture.proofs.Lemmas.{or_right, refl, scope_given, subst, sym, unclosed_before, unclosed_innermost}
use Rattle.run_picture.proofs.{Firsts.IsFirst, Firsts.first_found, Firsts.first_once, Firsts.sooner_first, Searched.opened_sooner}

-- ---- covering

-- scope s was opened later than scope t by the same actor, and is not closed
record IsLater (h : History) (t s : ℕ) : Type 0 where
  outer : Opening
  outer_is : opening h t ≡ Some outer
  inner : Opening
  inner_is : opening h s ≡ Some inner
  by : outer.actor ≡ inner.actor
  less : t < s
  unclosed : closed h s ≡ false

openers : (h : History) (t s : ℕ) (o p : Option Opening) → opening h t ≡ o → opening h s ≡ p → have_one_opener o p ≡ true → t < s → closed h s ≡ false → IsLater h t s
openers h t s None p outer inner one less unclosed = absurd cc
openers h t s (Some x) None outer inner one less unclosed = absurd cc
openers h t s (Some x) (Some y) outer inner one less unclosed = record { outer = x; outer_is = outer; inner = y; inner_is = inner; by = eqb-true x.actor y.actor one; less = less; unclosed = unclosed }

covers_split : (h : History) (t s : ℕ) → covers h t s ≡ true → (t ≡ s) ⊎ IsLater h t s
unfolding covers
covers_split h t s it =
    elim (or_cases (t == s) (nat_lt t s && not (closed h s) && have_one_opener (opening h t) (opening h s)) it) [
      | inl same ↦ inl (eqb-true t s same)
      | inr after ↦
          let last = and_parts (nat_lt t s && not (closed h s)) (have_one_opener (opening h t) (opening h s)) after in
          let first = and_parts (nat_lt t s) (not (closed h s)) last.0 in
          inr (openers h t s (opening h t) (opening h s) refl refl last.1 (ltb-true t s first.0) (not-true (closed h s) first.1))
    ]

covers_itself : (h : History) (s : ℕ) → covers h s s ≡ true
unfolding covers
covers_itself h s = or_left (s == s) (nat_lt s s && not (closed h s) && have_one_opener (opening h s) (opening h s)) (eq-eqb s s refl)

covers_later : (h : History) (t s : ℕ) → IsLater h t s → covers h t s ≡ true
unfolding covers
covers_later h t s it =
    let less : nat_lt t s ≡ true = lt-ltb t s it.less in
    let opener : (it.outer.actor == it.inner.actor) ≡ true = eq-eqb it.outer.actor it.inner.actor it.by in
    or_right (t == s) (nat_lt t s && not (closed h s) && have_one_opener (opening h t) (opening h s)) (rw less (rw it.unclosed (rw it.outer_is (rw it.inner_is opener))))

-- ---- where a close begins

-- a close of scope t begins at place i, and covers scope s
record BeginsBy (h : History) (s i : ℕ) : Type 0 where
  actor : ℕ
  of : ℕ
  at : slice_get h.events i ≡ Some (BeginClose actor of)
  covered : covers (before h i) of s ≡ true

begins_event : (h : History) (s i : ℕ) (e : Event) → slice_get h.events i ≡ Some e → begins_closing (before h i) s e ≡ true → BeginsBy h s i
begins_event h s i (BeginClose actor t) at so = record { actor = actor; of = t; at = at; covered = so }
begins_event h s i _ at so = absurd cc

begins_by : (h : History) (s i : ℕ) (o : Option Event) → slice_get h.events i ≡ o → option_map_or (begins_closing (before h i) s) o false ≡ true → BeginsBy h s i
begins_by h s i None at so = absurd cc
begins_by h s i (Some e) at so = begins_event h s i e at so

closing_begins : (h : History) (s i : ℕ) → closing_at h s i ≡ true → BeginsBy h s i
closing_begins h s i so = begins_by h s i (slice_get h.events i) refl so

begins_closing_at : (h : History) (s i : ℕ) → BeginsBy h s i → closing_at h s i ≡ true
begins_closing_at h s i it = ap (λ o. option_map_or (begins_closing (before h i) s) o false) it.at ∙ it.covered

-- what begins in a prefix begins in the whole
closing_same : (h : History) (n s j : ℕ) → j < n → closing_at (before h n) s j ≡ closing_at h s j
closing_same h n s j less = rw (before_of_before h n j (omega arith)) (rw (get_take h.events n j less) refl)

-- what was opened in a prefix was opened there
opened_within : (h : History) (n s : ℕ) (o : Opening) → opening (before h n) s ≡ Some o → o.place < n
opened_within h n s o is = omega (arith, opening_within (before h n) s o is, length-take n h.events)

-- ---- what is around a scope

-- what an actor had open innermost as it opened scope s
record HasOwn (h : History) (s p : ℕ) (o : Opening) : Type 0 where
  opened : Opening
  is : opening h p ≡ Some opened
  by : opened.actor ≡ o.actor
  sooner : opened.place < o.place
  less : p < s

own_held : (h : History) (s p : ℕ) (o : Opening) → opening h s ≡ Some o → innermost (before h o.place) o.actor ≡ Some p → HasOwn h s p o
own_held h s p o is inner =
    let held = innermost_unclosed (before h o.place) o.actor p inner in
    record {
      opened = held.opened;
      is = opening_since h p o.place held.opened held.is;
      by = held.by;
      sooner = opened_within h o.place p held.opened held.is;
      less = omega (arith, (scope_given (before h o.place) p held.opened held.is).1, opening_number h s o is);
    }

own_parent : (h : History) (i s p : ℕ) (o : Opening) → opening (before h i) s ≡ Some o → o.place < i → innermost (before h o.place) o.actor ≡ Some p → parent (before h i) s ≡ Some p
unfolding parent surrounding
own_parent h i s p o is less inner =
    ap (option_and_then (around (before h i))) is
    ∙ (ap (λ (g : History). option_or (innermost g o.actor) (forked_in g o.actor)) (before_of_before h i o.place (omega arith))
    ∙ ap (λ q. option_or q (forked_in (before h o.place) o.actor)) inner)

-- what an owner had open around an unclosed scope is unclosed
own_unclosed : (L : Limits) (h : History) (i s p : ℕ) (o : Opening) → Legal L h → opening (before h i) s ≡ Some o → innermost (before h o.place) o.actor ≡ Some p → closed (before h i) s ≡ false → closed (before h i) p ≡ false
own_unclosed L h i s p o legal is inner unclosed =
    false_from_ne_true (closed (before h i) p)
    (λ so. both_ways (closed (before h i) s) unclosed (inner_closed L (before h i) s p (legal_before L h i legal) (own_parent h i s p o is (opened_within h i s o is) inner) so))

-- ---- a close that covers a scope is its own, or covers what its owner had open around it

record CoversOwn (h : History) (s i : ℕ) : Type 0 where
  own : ℕ
  is : own_around h s ≡ Some own
  so : closing_at h own i ≡ true

began_unclosed : (L : Limits) (h : History) (s i : ℕ) → Legal L h → (b : BeginsBy h s i) → closed (before h i) b.of ≡ false
unfolding Legal
began_unclosed L h s i legal b =
    live_is_unclosed L (before h i) b.of (legal_before L h i legal) ((begin_close_passed L (before h i) b.actor b.of (legal i (BeginClose b.actor b.of) b.at)).live)

covers_own : (L : Limits) (h : History) (s i p : ℕ) (b : BeginsBy h s i) (it : IsLater (before h i) b.of s) → Legal L h → innermost (before h it.inner.place) it.inner.actor ≡ Some p → b.of ≤ p → covers (before h i) b.of p ≡ true
covers_own L h s i p b it legal inner least =
    let own = own_held h s p it.inner (opening_since h s i it.inner it.inner_is) inner in
    let within = opened_within h i s it.inner it.inner_is in
    elim (cases_eq b.of p) [
      | inl same ↦ subst (λ q. covers (before h i) b.of q ≡ true) same (covers_itself (before h i) b.of)
      | inr other ↦ covers_later (before h i) b.of p (record {
        outer = it.outer;
        outer_is = it.outer_is;
        inner = own.opened;
        inner_is = opening_before h p i own.opened own.is (omega (arith, own.sooner, within));
        by = it.by ∙ sym own.by;
        less = omega (arith, least, other);
        unclosed = own_unclosed L h i s p it.inner legal it.inner_is inner it.unclosed;
      })
    ]

later_outer : (L : Limits) (h : History) (s i : ℕ) → Legal L h → (b : BeginsBy h s i) → IsLater (before h i) b.of s → CoversOwn h s i
later_outer L h s i legal b it =
    let o = it.inner in
    let is = opening_since h s i o it.inner_is in
    let outer = opening_since h b.of i it.outer it.outer_is in
    let within = opened_within h i s o it.inner_is in
    let unclosed : closed (before h o.place) b.of ≡ false = ap (λ (g : History). closed g b.of) (sym (before_of_before h i o.place (omega (arith, within)))) ∙ unclosed_before (before h i) b.of o.place (began_unclosed L h s i legal b) in
    let held : HasUnclosed (before h o.place) o.actor b.of = record { opened = it.outer; is = opening_before h b.of o.place it.outer outer (opened_sooner h b.of s it.outer o outer is it.less); by = it.by; unclosed = unclosed } in
    let inner = unclosed_innermost (before h o.place) o.actor b.of held in
    record {
      own = inner.scope;
      is = ap (option_and_then (λ (x : Opening). innermost (before h x.place) x.actor)) is ∙ inner.is;
      so = begins_closing_at h inner.scope i (record { actor = b.actor; of = b.of; at = b.at; covered = covers_own L h s i inner.scope b it legal inner.is inner.least });
    }

-- the close of scope s itself begins at place i
abbrev BeginsOwn : History → ℕ → ℕ → Type 0
BeginsOwn h s i = (a : ℕ) × (slice_get h.events i ≡ Some (BeginClose a s))

closing_split : (L : Limits) (h : History) (s i : ℕ) → Legal L h → closing_at h s i ≡ true → BeginsOwn h s i ⊎ CoversOwn h s i
closing_split L h s i legal so =
    let b = closing_begins h s i so in
    elim (covers_split (before h i) b.of s b.covered) [
      | inl same ↦ inl (b.actor, subst (λ n. slice_get h.events i ≡ Some (BeginClose b.actor n)) same b.at)
      | inr later ↦ inr (later_outer L h s i legal b later)
    ]

own_closing : (h : History) (s i : ℕ) → BeginsOwn h s i → closing_at h s i ≡ true
own_closing h s i it = begins_closing_at h s i (record { actor = it.0; of = s; at = it.1; covered = covers_itself (before h i) s })

-- ---- a scope begins to close with what its owner had open around it, or has begun before

open_live : (L : Limits) (g : History) (a : ℕ) (policy options : _) → Accepts L g (Open a policy options) → in_closing g a ≡ false
unfolding row_check
open_live L g a policy options ok = not_refused _ _ (checks_at _ 1 _ ok.passed refl)

-- nothing is opened inside a closing scope
own_live : (L : Limits) (h : History) (s p : ℕ) (o : Opening) → Legal L h → opening h s ≡ Some o → innermost (before h o.place) o.actor ≡ Some p → closing (before h o.place) p ≡ false
unfolding Legal in_closing
own_live L h s p o legal is inner =
    let live = open_live L (before h o.place) o.actor o.policy o.options (legal o.place (Open o.actor o.policy o.options) (opening_event h s o is)) in
    sym (ap (λ q. option_map_or (closing (before h o.place)) q false) inner) ∙ live

opened_first : (L : Limits) (h : History) (s p j : ℕ) (o : Opening) → Legal L h → opening h s ≡ Some o → innermost (before h o.place) o.actor ≡ Some p → closing_at h p j ≡ true → j < o.place → ⊥
unfolding closing
opened_first L h s p j o legal is inner so less =
    let long = length-take o.place h.events in
    let within = opening_within h s o is in
    both_ways (closing (before h o.place) p) (own_live L h s p o legal is inner)
    (below_some (closing_at (before h o.place) p) (length (before h o.place).events) j (omega (arith, long, within, less)) (closing_same h o.place p j less ∙ so))

begins_apart : (h : History) (s j : ℕ) (o : Opening) → opening h s ≡ Some o → (a t : ℕ) → slice_get h.events j ≡ Some (BeginClose a t) → j ≢ o.place
begins_apart h s j o is a t at same = let here = subst (λ n. slice_get h.events n ≡ Some (BeginClose a t)) same at in absurd (cc (here, opening_event h s o is))

record ClosingBy (h : History) (s j : ℕ) : Type 0 where
  place : ℕ
  by : place ≤ j
  so : closing_at h s place ≡ true

-- if the scope was closed already, it had begun to close
closed_began : (L : Limits) (h : History) (s j : ℕ) → Legal L h → closed (before h j) s ≡ true → ClosingBy h s j
unfolding closing
closed_began L h s j legal so =
    let it = below_where (closing_at (before h j) s) (length (before h j).events) (closed_is_closing L (before h j) s (legal_before L h j legal) so) in
    let less : it.0 < j = omega (arith, it.1, length-take j h.events) in
    record { place = it.0; by = omega (arith, less); so = sym (closing_same h j s it.0 less) ∙ it.2 }

-- what covers the scope around covers an unclosed one
covered_inside : (h : History) (s p j : ℕ) (o : Opening) → opening h s ≡ Some o → HasOwn h s p o → o.place < j → closed (before h j) s ≡ false → (b : BeginsBy h p j) → covers (before h j) b.of s ≡ true
covered_inside h s p j o is own less unclosed b =
    let here = opening_before h s j o is less in
    elim (covers_split (before h j) b.of p b.covered) [
      | inl same ↦ covers_later (before h j) b.of s (record {
        outer = own.opened;
        outer_is = ap (opening (before h j)) same ∙ opening_before h p j own.opened own.is (omega (arith, own.sooner, less));
        inner = o;
        inner_is = here;
        by = own.by;
        less = omega (arith, same, own.less);
        unclosed = unclosed;
      })
      | inr later ↦
          let around : later.inner ≡ own.opened = let both = sym later.inner_is ∙ opening_before h p j own.opened own.is (omega (arith, own.sooner, less)) in cc in
          covers_later (before h j) b.of s (record {
            outer = later.outer;
            outer_is = later.outer_is;
            inner = o;
            inner_is = here;
            by = later.by ∙ (ap (λ (x : Opening). x.actor) around ∙ own.by);
            less = omega (arith, later.less, own.less);
            unclosed = unclosed;
          })
    ]

own_reaches : (L : Limits) (h : History) (s p j : ℕ) (o : Opening) → Legal L h → opening h s ≡ Some o → innermost (before h o.place) o.actor ≡ Some p → closing_at h p j ≡ true → ClosingBy h s j
own_reaches L h s p j o legal is inner so =
    elim (cases_lt o.place j) [
      | inl less ↦ by less (closed (before h j) s) refl
      | inr late ↦ elim (cases_eq j o.place) [
        | inl same ↦ absurd (begins_apart h s j o is (closing_begins h p j so).actor (closing_begins h p j so).of (closing_begins h p j so).at same)
        | inr other ↦ absurd (opened_first L h s p j o legal is inner so (omega arith))
      ]
    ]
  where
    by : o.place < j → (b : Bool) → closed (before h j) s ≡ b → ClosingBy h s j
    by less true ended = closed_began L h s j legal ended
    by less false still =
        let b = closing_begins h p j so in
        record { place = j; by = omega arith; so = begins_closing_at h s j (record { actor = b.actor; of = b.of; at = b.at; covered = covered_inside h s p j o is (own_held h s p o is inner) less still b }) }

-- ---- the first places

abbrev IsClosingAt : History → ℕ → ℕ → Type 0
IsClosingAt h s i = closing_at h s i ≡ true

first_closing : (h : History) (s : ℕ) → IsFirst (IsClosingAt h s) (length h.events) (closing_place h s)
unfolding closing_place
first_closing h s =
    first_found (IsClosingAt h s) (covered_at h s)
    (λ i j is. let it = if_some (closing_at h s i) (Some i) j is in (cc (it.1), it.0))
    (λ i so. ap (λ b. cond b (Some i) None) so)
    (length h.events)

named_begin : (s : ℕ) (e : Event) → is_named Landmark.Began s e ≡ true → (a : ℕ) × (e ≡ BeginClose a s)
named_begin s (BeginClose a t) is = (a, ap (BeginClose a) (eqb-true t s is))
named_begin s _ is = absurd cc

first_begun : (h : History) (s : ℕ) → IsFirst (BeginsOwn h s) (length h.events) (first_place Landmark.Began h.events s)
unfolding first_place
first_begun h s =
    first_found (BeginsOwn h s) (named_at Landmark.Began h.events s) gives found (length h.events)
  where
    gives : (i j : ℕ) → named_at Landmark.Began h.events s i ≡ Some j → (j ≡ i) × BeginsOwn h s i
    gives i j is =
        let entry = and_then_some (λ e. cond (is_named Landmark.Began s e) (Some i) None) (slice_get h.events i) j is in
        let test = if_some (is_named Landmark.Began s entry.0) (Some i) j entry.2 in
        let it = named_begin s entry.0 test.0 in
        (cc (test.1), (it.0, entry.1 ∙ ap Some it.1))

    found : (i : ℕ) → BeginsOwn h s i → named_at Landmark.Began h.events s i ≡ Some i
    found i it = ap (option_and_then (λ e. cond (is_named Landmark.Began s e) (Some i) None)) it.1 ∙ ap (λ b. cond b (Some i) None) (eq-eqb s s refl)

closing_alone : (L : Limits) (h : History) (s : ℕ) → Legal L h → own_around h s ≡ None → closing_place h s ≡ first_place Landmark.Began h.events s
closing_alone L h s legal none =
    first_once (IsClosingAt h s) (length h.events) (closing_place h s) (sooner (first_place Landmark.Began h.events s) None) (first_closing h s)
    (sooner_first (IsClosingAt h s) (BeginsOwn h s) (λ _. ⊥) (length h.events)
    (λ i so. elim (closing_split L h s i legal so) [ inl own ↦ inl own | inr outer ↦ absurd (cc (outer.is, none)) ])
    (own_closing h s)
    (λ i within outer. absurd outer)
    (first_place Landmark.Began h.events s) None (first_begun h s) (record { none = λ none i within so. so; there = λ i is. absurd cc }))
    ∙ sooner_none (first_place Landmark.Began h.events s)
  where
    sooner_none : (a : Option ℕ) → sooner a None ≡ a
    sooner_none None = refl
    sooner_none (Some x) = refl

closing_around : (L : Limits) (h : History) (s p : ℕ) (o : Opening) → Legal L h → opening h s ≡ Some o → innermost (before h o.place) o.actor ≡ Some p → closing_place h s ≡ sooner (first_place Landmark.Began h.events s) (closing_place h p)
closing_around L h s p o legal is inner =
    let own : own_around h s ≡ Some p = ap (option_and_then (λ (x : Opening). innermost (before h x.place) x.actor)) is ∙ inner in
    first_once (IsClosingAt h s) (length h.events) (closing_place h s) (sooner (first_place Landmark.Began h.events s) (closing_place h p)) (first_closing h s)
    (sooner_first (IsClosingAt h s) (BeginsOwn h s) (IsClosingAt h p) (length h.events)
    (λ i so. elim (closing_split L h s i legal so) [ inl alone ↦ inl alone | inr outer ↦ let same : outer.own ≡ p = let both = sym outer.is ∙ own in cc in inr (subst (λ q. closing_at h q i ≡ true) same outer.so) ])
    (own_closing h s)
    (λ i within so. let it = own_reaches L h s p i o legal is inner so in (it.place, it.by, it.so))
    (first_place Landmark.Began h.events s) (closing_place h p) (first_begun h s) (first_closing h p))

-- a scope begins to close where its own close begins, or before with what its owner had open around it
pub closing_next : (L : Limits) (h : History) (s : ℕ) (o : Opening) (own : Option ℕ) → Legal L h → opening h s ≡ Some o → own_around h s ≡ own → closing_place h s ≡ sooner (first_place Landmark.Began h.events s) (option_and_then (closing_place h) own)
closing_next L h s o None legal is own = closing_alone L h s legal own ∙ alone (first_place Landmark.Began h.events s)
  where
    alone : (a : Option ℕ) → a ≡ sooner a None
    alone None = refl
    alone (Some x) = refl
closing_next L h s o (Some p) legal is own = closing_around L h s p o legal is (sym (ap (option_and_then (λ (x : Opening). innermost (before h x.place) x.actor)) is) ∙ own)

-- what an owner had open around a scope is one of the scopes before it
pub own_index : (h : History) (n p : ℕ) → own_around h (h.base.scopes + 1 + n) ≡ Some p → (m : ℕ) × (m < n) × (p ≡ h.base.scopes + 1 + m)
own_index h n p own = by (opening h (h.base.scopes + 1 + n)) refl own
  where
    by : (x : Option Opening) → opening h (h.base.scopes + 1 + n) ≡ x → option_and_then (λ (o : Opening). innermost (before h o.place) o.actor) x ≡ Some p → (m : ℕ) × (m < n) × (p ≡ h.base.scopes + 1 + m)
    by None is found = absurd cc
    by (Some o) is found =
        let held = own_held h (h.base.scopes + 1 + n) p o is found in
        let number = opening_number h p held.opened held.is in
        let m = opened_count (before h held.opened.place) in
        (m, omega (arith, number, held.less), omega (arith, number))

-- ---- from scope to scope around it

own_there : (h : History) (s p : ℕ) → own_around h s ≡ Some p → (p < s) × (is_some (opening h p) ≡ true)
own_there h s p own = by (opening h s) refl own
  where
    by : (x : Option Opening) → opening h s ≡ x → option_and_then (λ (o : Opening). innermost (before h o.place) o.actor) x ≡ Some p → (p < s) × (is_some (opening h p) ≡ true)
    by None is found = absurd cc
    by (Some o) is found = let held = own_held h s p o is found in (held.less, ap is_some held.is)

-- what is so of each smaller scope is so of what lies around this one
own_alike : (h : History) (n m s : ℕ) (o : Option ℕ) → own_around h s ≡ o → ((p : ℕ) → p < s → closing_within h n p ≡ closing_within h m p) → option_and_then (closing_within h n) o ≡ option_and_then (closing_within h m) o
own_alike h n m s None is each = refl
own_alike h n m s (Some p) is each = each p (own_there h s p is).0

-- so many scopes are enough
within_enough : (h : History) (n m s : ℕ) → s < n → s < m → closing_within h n s ≡ closing_within h m s
unfolding closing_within
within_enough h zero m s less more = absurd (omega (arith, less))
within_enough h (suc n) zero s less more = absurd (omega (arith, more))
within_enough h (suc n) (suc m) s less more =
    ap (sooner (first_place Landmark.Began h.events s)) (own_alike h n m s (own_around h s) refl (λ p small. within_enough h n m p (omega (arith, small, less)) (omega (arith, small, more))))

pub begins_next : (h : History) (s : ℕ) (own : Option ℕ) → own_around h s ≡ own → begins_to_close h s ≡ sooner (first_place Landmark.Began h.events s) (option_and_then (begins_to_close h) own)
unfolding closing_within
begins_next h s None is = ap (λ o. sooner (first_place Landmark.Began h.events s) (option_and_then (closing_within h s) o)) is
begins_next h s (Some p) is =
    ap (λ o. sooner (first_place Landmark.Began h.events s) (option_and_then (closing_within h s) o)) is
    ∙ ap (sooner (first_place Landmark.Began h.events s)) (within_enough h s (suc p) p (own_there h s p is).0 (omega arith))

within_next : (L : Limits) (h : History) (n s : ℕ) (x : Option Opening) → Legal L h → opening h s ≡ x → is_some x ≡ true → ((p : ℕ) → p < s → is_some (opening h p) ≡ true → closing_within h n p ≡ closing_place h p) →
    sooner (first_place Landmark.Began h.events s) (option_and_then (closing_within h n) (own_around h s)) ≡ closing_place h s
within_next L h n s None legal is some each = absurd cc
within_next L h n s (Some o) legal is some each = ap (sooner (first_place Landmark.Began h.events s)) (outer (own_around h s) refl) ∙ sym (closing_next L h s o (own_around h s) legal is refl)
  where
    outer : (q : Option ℕ) → own_around h s ≡ q → option_and_then (closing_within h n) q ≡ option_and_then (closing_place h) q
    outer None around = refl
    outer (Some p) around = let own = own_there h s p around in each p own.0 own.1

within_there : (L : Limits) (h : History) (n s : ℕ) → Legal L h → is_some (opening h s) ≡ true → s < n → closing_within h n s ≡ closing_place h s
unfolding closing_within
within_there L h zero s legal opened less = absurd (omega (arith, less))
within_there L h (suc n) s legal opened less = within_next L h n s (opening h s) legal refl opened (λ p small there. within_there L h n p legal there (omega (arith, small, less)))

-- in a legal history it is where a close begins that covers the scope
pub begins_there : (L : Limits) (h : History) (s : ℕ) → Legal L h → is_some (opening h s) ≡ true → begins_to_close h s ≡ closing_place h s
begins_there L h s legal opened = within_there L h (suc s) s legal opened (omega arith)

some_is_earliest : (test : ℕ → Bool) (n : ℕ) → is_some (earliest (λ i. cond (test i) (Some i) None) n) ≡ some_below test n
unfolding some_below earliest
some_is_earliest test zero = refl
some_is_earliest test (suc n) = by (earliest (λ i. cond (test i) (Some i) None) n) (test n) (some_is_earliest test n)
  where
    by : (o : Option ℕ) (b : Bool) → is_some o ≡ some_below test n → is_some (option_or o (cond b (Some n) None)) ≡ (some_below test n || b)
    by None true so = rw (sym so) refl
    by None false so = rw (sym so) refl
    by (Some i) b so = rw (sym so) refl

-- and there is such a place just if the scope is closing or closed
pub begins_is : (L : Limits) (h : History) (s : ℕ) → Legal L h → is_some (opening h s) ≡ true → is_some (begins_to_close h s) ≡ closing h s
unfolding closing closing_place
begins_is L h s legal opened = ap is_some (begins_there L h s legal opened) ∙ some_is_earliest (closing_at h s) (length h.events)
