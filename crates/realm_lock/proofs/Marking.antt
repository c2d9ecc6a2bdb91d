-- How setters that lag behind are brought up to a history.
use Rattle.std.proofs.Common.{[], ℕ, ◌++◌, ◌+◌, ◌-◌, ◌<◌, ◌∙◌, ◌∷◌, ◌≡◌, ◌≢◌, ◌≤◌, ◌⊎◌, AllPairs, List, None, Option, Some, ap, arith, eqb, get_or, inl, inr, length, length-append, map, option_map, refl, set, slice_get, subst}
use Rattle.std.proofs.Common.{suc, sym, true, zero}
use Rattle.realm_lock.specs.{AreBehind, AreMarks, AreSetters, Cancellation, Cause, CellValue, CoreValue, History, IsCancelOrderOf, IsSetterOf, MarksValue, Origin, SetterValue, UsesSetter, cancellation, cancelled_at, cause}
use Rattle.realm_lock.specs.{history_of, is_cancelled, list_any, mark_of, opened_count, option_and_then, option_or}
use Rattle.realm_lock.proofs.Words.{Any-from_list_any, Contains-get_or, Decides-eqb, IsDistinct-from_AllPairs, cases_eq, cases_lt, eqb-true, get_or-append_right, get_or-map, get_or_append_left, get_or_from_slice_get}
use Rattle.realm_lock.proofs.Words.{length-le_from_distinct_below, length-map, length-set, opened_after, order_unique, same_Some, slice_get-get_or, slice_get_read, slice_get_within}
use Rattle.realm_lock.proofs.CancelsGrow.{cancelled_there, mark_there, marked, order_grows}

-- there is one setter for each scope since the base, and those of the first n scopes in order of their
-- cancellation were used as they should be; each other one too, unless it wasn't used
pub record ArePartly (h : History) (order : List ℕ) (setters : List SetterValue) (n : ℕ) : Type 0 where
  pub each : length setters ≡ opened_count h
  pub ordered : IsCancelOrderOf h order
  pub within : n ≤ length order
  pub own : (i : ℕ) (x : SetterValue) → slice_get setters i ≡ Some x → (x.cell.scope ≡ h.base.scopes + 1 + i) × ((x.used ≡ None) ⊎ (x.used ≡ mark_of h (h.base.scopes + 1 + i)))
  pub done : (j i : ℕ) (x : SetterValue) → j < n → get_or order j 0 ≡ h.base.scopes + 1 + i → slice_get setters i ≡ Some x → x.used ≡ mark_of h (h.base.scopes + 1 + i)

-- a cancelled scope has the place of one of the setters
pub cancelled_place : (h : History) (s : ℕ) → is_cancelled h s ≡ true → (i : ℕ) × (i < opened_count h) × (h.base.scopes + 1 + i ≡ s)
cancelled_place h s is =
    let m = mark_there h s is in
    let it = marked h s m.0 m.1 in
    opened_after h s it.opened it.is

module _ (k : History) (marks : MarksValue) (ys : List ℕ) (behind : AreBehind k marks) (ordered : IsCancelOrderOf k ys) where
  abbrev h : History
  h = behind.then

  abbrev xs : List ℕ
  xs = behind.were.order

  grown : (more : List ℕ) × (ys ≡ xs ++ more)
  grown = order_grows h k xs ys behind.grows behind.were.ordered ordered

  old_own : (i : ℕ) (x : SetterValue) → slice_get behind.old i ≡ Some x → (x.cell.scope ≡ k.base.scopes + 1 + i) × ((x.used ≡ None) ⊎ (x.used ≡ mark_of k (k.base.scopes + 1 + i)))
  old_own i x at = subst (λ b. (x.cell.scope ≡ b + 1 + i) × ((x.used ≡ None) ⊎ (x.used ≡ mark_of k (b + 1 + i)))) (sym (ap (λ (o : Origin). o.scopes) behind.grows.base)) (it.of, by (mark_of h (h.base.scopes + 1 + i)) refl)
    where
      it : IsSetterOf h (h.base.scopes + 1 + i) x
      it = behind.were.setters.own i x at

      by : (o : Option Cancellation) → mark_of h (h.base.scopes + 1 + i) ≡ o → (x.used ≡ None) ⊎ (x.used ≡ mark_of k (h.base.scopes + 1 + i))
      by None none = inl (it.used ∙ none)
      by (Some m) is = inr (it.used ∙ is ∙ sym (behind.grows.kept (h.base.scopes + 1 + i) m is).0)

  -- a place is one of the old setters or of the new ones
  split : (i : ℕ) (x : SetterValue) → slice_get marks.setters i ≡ Some x → (slice_get behind.old i ≡ Some x) ⊎ ((length behind.old ≤ i) × (slice_get behind.fresh (i - length behind.old) ≡ Some x))
  split i x at =
      let within = slice_get_within marks.setters i x at in
      let read : get_or (behind.old ++ behind.fresh) i x ≡ x = subst (λ l. get_or l i x ≡ x) behind.are (get_or_from_slice_get marks.setters i x x at) in
      let count = ap length behind.are in
      elim (cases_lt i (length behind.old)) [
        | inl first ↦ inl (slice_get_read behind.old (length behind.old) i x refl first (sym read ∙ get_or_append_left behind.old behind.fresh x i first))
        | inr from ↦ inr (from, slice_get_read behind.fresh (length behind.fresh) (i - length behind.old) x refl (omega (arith, within, count, from, length-append behind.old behind.fresh)) (sym read ∙ get_or-append_right behind.old behind.fresh (length behind.old) i x refl from))
      ]

  partly_own : (i : ℕ) (x : SetterValue) → slice_get marks.setters i ≡ Some x → (x.cell.scope ≡ k.base.scopes + 1 + i) × ((x.used ≡ None) ⊎ (x.used ≡ mark_of k (k.base.scopes + 1 + i)))
  partly_own i x at = elim (split i x at) [
    | inl old ↦ old_own i x old
    | inr (from, new) ↦ let it = behind.unused (i - length behind.old) x new in (it.0 ∙ omega (arith, from), inl it.1)
  ]

  partly_done : (j i : ℕ) (x : SetterValue) → j < marks.marked → get_or ys j 0 ≡ k.base.scopes + 1 + i → slice_get marks.setters i ≡ Some x → x.used ≡ mark_of k (k.base.scopes + 1 + i)
  partly_done j i x under is at =
      let inside : j < length xs = (let n = behind.were.counted in omega (arith, under, n)) in
      let s : ℕ = get_or xs j 0 in
      let same : get_or ys j 0 ≡ s = ap (λ l. get_or l j 0) grown.1 ∙ get_or_append_left xs grown.0 0 j inside in
      let m = mark_there h s (behind.were.ordered.only s (Contains-get_or xs j 0 inside)) in
      let place = cancelled_place h s (cancelled_there h s m.0 m.1).0 in
      let base = behind.grows.base in
      let first : i < length behind.old = (let e = behind.were.setters.each in let b = ap (λ (o : Origin). o.scopes) base in omega (arith, e, place.2, place.1, b, same, is)) in
      let number : h.base.scopes + 1 + i ≡ s = (let b = ap (λ (o : Origin). o.scopes) base in omega (arith, b, same, is)) in
      elim (split i x at) [
        | inl old ↦
            let it = behind.were.setters.own i x old in
            it.used ∙ ap (mark_of h) number ∙ m.1 ∙ sym (behind.grows.kept s m.0 m.1).0 ∙ ap (mark_of k) (sym same ∙ is)
        | inr (from, new) ↦ absurd (omega (arith, from, first))
      ]

  pub partly_begun : ArePartly k ys marks.setters marks.marked
  partly_begun = record {
    each = behind.each;
    ordered = ordered;
    within = (let n = behind.were.counted in let l : length ys ≡ length (xs ++ grown.0) = ap length grown.1 in omega (arith, n, l, length-append xs grown.0));
    own = partly_own;
    done = partly_done;
  }

-- one more is used
pub partly_on : (h : History) (order : List ℕ) (setters later : List SetterValue) (n s i : ℕ) (x y : SetterValue) → ArePartly h order setters n → slice_get order n ≡ Some s → h.base.scopes + 1 + i ≡ s → slice_get setters i ≡ Some x
    → y.cell ≡ x.cell → y.used ≡ option_or x.used (mark_of h s) → length later ≡ length setters → slice_get later i ≡ Some y → ((t : ℕ) → (t ≡ i → ⊥) → slice_get later t ≡ slice_get setters t) → ArePartly h order later (n + 1)
partly_on h order setters later n s i x y so_far next is at cell used count here others = record {
  each = count ∙ so_far.each;
  ordered = so_far.ordered;
  within = (let w = slice_get_within order n s next in omega (arith, w));
  own = own;
  done = done;
}
  where
    twice : (o : Option Cancellation) → option_or o o ≡ o
    twice None = refl
    twice (Some m) = refl

    now : y.used ≡ mark_of h s
    now = elim (so_far.own i x at).1 [
      | inl none ↦ used ∙ ap (λ o. option_or o (mark_of h s)) none
      | inr was ↦ used ∙ ap (λ o. option_or o (mark_of h s)) (was ∙ ap (mark_of h) is) ∙ twice (mark_of h s)
    ]

    own : (t : ℕ) (z : SetterValue) → slice_get later t ≡ Some z → (z.cell.scope ≡ h.base.scopes + 1 + t) × ((z.used ≡ None) ⊎ (z.used ≡ mark_of h (h.base.scopes + 1 + t)))
    own t z there = elim (cases_eq t i) [
      | inl same ↦
          let one : y ≡ z = (let a = ap (slice_get later) same in cc (a, there, here)) in
          subst (λ (w : SetterValue). (w.cell.scope ≡ h.base.scopes + 1 + t) × ((w.used ≡ None) ⊎ (w.used ≡ mark_of h (h.base.scopes + 1 + t)))) one (
            ap (λ (c : CellValue). c.scope) cell ∙ (so_far.own i x at).0 ∙ omega (arith, same),
            inr (now ∙ ap (mark_of h) (omega (arith, is, same))),
          )
      | inr other ↦ so_far.own t z (sym (others t other) ∙ there)
    ]

    done : (j t : ℕ) (z : SetterValue) → j < n + 1 → get_or order j 0 ≡ h.base.scopes + 1 + t → slice_get later t ≡ Some z → z.used ≡ mark_of h (h.base.scopes + 1 + t)
    done j t z under number there = elim (cases_eq t i) [
      | inl same ↦
          let one : y ≡ z = (let a = ap (slice_get later) same in cc (a, there, here)) in
          ap (λ (w : SetterValue). w.used) (sym one) ∙ now ∙ ap (mark_of h) (omega (arith, is, same))
      | inr other ↦ elim (cases_lt j n) [
        | inl before ↦ so_far.done j t z before number (sym (others t other) ∙ there)
        | inr last ↦
            let place : j ≡ n = omega (arith, under, last) in
            let read : get_or order j 0 ≡ s = ap (λ q. get_or order q 0) place ∙ get_or_from_slice_get order n s 0 next in
            absurd (other (omega (arith, read, number, is)))
      ]
    ]

-- if there is no more, the setters are those of h
pub partly_ended : (h : History) (order : List ℕ) (setters : List SetterValue) (n : ℕ) → ArePartly h order setters n → slice_get order n ≡ None → AreSetters h setters × (length order ≡ n)
partly_ended h order setters n so_far none = (record { each = so_far.each; own = λ i x at. (record { of = (so_far.own i x at).0; used = by i x at (mark_of h (h.base.scopes + 1 + i)) refl }) }, omega (arith, so_far.within, end))
  where
    end : length order ≤ n
    end = elim (cases_lt n (length order)) [
      | inl more ↦ absurd (let some = slice_get-get_or order n 0 more in cc (some, none))
      | inr past ↦ past
    ]

    by : (i : ℕ) (x : SetterValue) → slice_get setters i ≡ Some x → (o : Option Cancellation) → mark_of h (h.base.scopes + 1 + i) ≡ o → x.used ≡ mark_of h (h.base.scopes + 1 + i)
    by i x at None live = elim (so_far.own i x at).1 [ inl unused ↦ unused ∙ sym live | inr used ↦ used ]
    by i x at (Some m) is =
        let s : ℕ = h.base.scopes + 1 + i in
        let there = so_far.ordered.all s (cancelled_there h s m is).0 in
        let read : get_or order there.0 0 ≡ s = get_or_from_slice_get order there.0 s 0 (slice_get-get_or order there.0 s there.1 ∙ ap Some there.2) in
        so_far.done there.0 i x (omega (arith, there.1, end)) read at

-- there are no more cancelled scopes than scopes
pub order_counted : (h : History) (order : List ℕ) → IsCancelOrderOf h order → length order ≤ opened_count h
order_counted h order ordered =
    let count : length (map place order) ≡ length order = length-map _ _ in
    let within = length-le_from_distinct_below (map place order) (opened_count h) (IsDistinct-from_AllPairs Decides-eqb (map place order) apart) below in
    omega (arith, count, within)
  where
    place : ℕ → ℕ
    place s = s - (h.base.scopes + 1)

    placed : (i : ℕ) → i < length order → (n : ℕ) × (n < opened_count h) × (h.base.scopes + 1 + n ≡ get_or order i 0)
    placed i within = cancelled_place h (get_or order i 0) (ordered.only (get_or order i 0) (Contains-get_or order i 0 within))

    below : (q : ℕ) → list_any (eqb q) (map place order) ≡ true → q < opened_count h
    below q is =
        let found = Any-from_list_any (eqb q) (map place order) is in
        let within : found.0 < length order = (let c : length (map place order) ≡ length order = length-map _ _ in let u = found.2 in omega (arith, c, u)) in
        let same : q ≡ found.1 = eqb-true q found.1 found.4 in
        let read : get_or (map place order) found.0 found.1 ≡ place (get_or order found.0 0) = get_or-map place order found.0 0 found.1 within in
        let there = placed found.0 within in
        omega (arith, same, found.3, read, there.1, there.2)

    apart : AllPairs (λ x y. x ≢ y) (map place order)
    apart i j d lt within e =
        let c : length (map place order) ≡ length order = length-map _ _ in
        let second : j < length order = omega (arith, c, within) in
        let first : i < length order = omega (arith, lt, second) in
        let read : place (get_or order i 0) ≡ place (get_or order j 0) = sym (get_or-map place order i 0 d first) ∙ e ∙ get_or-map place order j 0 d second in
        let one = placed i first in
        let other = placed j second in
        let same : get_or order i 0 ≡ get_or order j 0 = omega (arith, read, one.2, other.2) in
        let b = ordered.ascends i j 0 lt second in
        let when : b.first ≡ b.then = same_Some b.first b.then (sym b.is_first ∙ ap (cancelled_at h) same ∙ b.is_then) in
        let less = b.by_number when in
        omega (arith, less, same)

-- ---- one setter is used

pub cancellation_there : (h : History) (s : ℕ) → is_cancelled h s ≡ true → cancellation h s ≡ None → ⊥
cancellation_there h s is none = let m = mark_there h s is in by (cancelled_at h s) (cause h s) none m.0 m.1
  where
    by : (a : Option ℕ) (k : Option Cause) → option_and_then {U = ℕ × Cause} (λ (n : ℕ). option_map (λ (c : Cause). (n, c)) k) a ≡ None → (m : Cancellation) → option_and_then {U = Cancellation} (λ (n : ℕ). option_map (λ (c : Cause). record { cause = c; number = n }) k) a ≡ Some m → ⊥
    by None k none m is = absurd cc
    by (Some n) None none m is = absurd cc
    by (Some n) (Some c) none m is = absurd cc

-- what the rules say of a cancelled scope is what its mark says
pub mark_told : (h : History) (s n : ℕ) (c : Cause) → cancellation h s ≡ Some (n, c) → mark_of h s ≡ Some (record { cause = c; number = n })
mark_told h s n c is = by (cancelled_at h s) (cause h s) is
  where
    by : (a : Option ℕ) (k : Option Cause) → option_and_then {U = ℕ × Cause} (λ (n : ℕ). option_map (λ (c : Cause). (n, c)) k) a ≡ Some (n, c) → option_and_then {U = Cancellation} (λ (n : ℕ). option_map (λ (c : Cause). record { cause = c; number = n }) k) a ≡ Some (record { cause = c; number = n })
    by None k is = absurd cc
    by (Some n) None is = absurd cc
    by (Some m) (Some d) is = ap (λ (o : Option (ℕ × Cause)). option_map (λ (p : ℕ × Cause). record { cause = p.1; number = p.0 }) o) is

set_at : {A : Type 0} (list : List A) (i : ℕ) (y : A) → i < length list → slice_get (set list i y) i ≡ Some y
set_at [] i y lt = absurd (omega (arith, lt))
set_at (x ∷ rest) zero y lt = refl
set_at (x ∷ rest) (suc i) y lt = set_at rest i y (omega (arith, lt))

set_other : {A : Type 0} (list : List A) (i : ℕ) (y : A) (t : ℕ) → (t ≡ i → ⊥) → slice_get (set list i y) t ≡ slice_get list t
set_other [] i y t other = refl
set_other (x ∷ rest) zero y zero other = absurd (other refl)
set_other (x ∷ rest) zero y (suc t) other = refl
set_other (x ∷ rest) (suc i) y zero other = refl
set_other (x ∷ rest) (suc i) y (suc t) other = set_other rest i y t (λ e. other (ap suc e))

pub uses_setter : (h : History) (s i : ℕ) (old new : MarksValue) (x y : SetterValue) (m : Cancellation) → h.base.scopes + 1 + i ≡ s → i < length old.setters → x ≡ get_or old.setters i x
    → y ≡ record { cell = x.cell; used = option_or x.used (Some m); known = y.known } → mark_of h s ≡ Some m → new ≡ record old { setters = set old.setters i y } → UsesSetter h s old new
uses_setter h s i old new x y m place within read made told is =
    let setters : new.setters ≡ set old.setters i y = ap (λ (v : MarksValue). v.setters) is in
    record {
      at = i;
      place = place;
      before = x;
      after = y;
      was = slice_get_read old.setters (length old.setters) i x refl within read;
      is = ap (λ l. slice_get l i) setters ∙ set_at old.setters i y within;
      cell = ap (λ (v : SetterValue). v.cell) made;
      used = ap (λ (v : SetterValue). v.used) made ∙ ap (option_or x.used) (sym told);
      others = λ t other. ap (λ l. slice_get l t) setters ∙ set_other old.setters i y t other;
      kept = is ∙ ap (λ (l : List SetterValue). record old { setters = l }) (sym setters);
      each = ap length setters ∙ length-set old.setters i y;
    }

-- ---- the loop that uses them all

-- part of the cancelled scopes have had their setters used, in the order of their cancellation; and which is next
abbrev pub IsPartway : CoreValue → MarksValue → Option ℕ → Type 0
IsPartway core marks next = (order : List ℕ) × ArePartly (history_of core.steps) order marks.setters marks.marked × (next ≡ slice_get order marks.marked)

pub way_begins : (core : CoreValue) (marks : MarksValue) (list : List ℕ) (next : Option ℕ) → AreBehind (history_of core.steps) marks → IsCancelOrderOf (history_of core.steps) list → next ≡ slice_get list marks.marked → IsPartway core marks next
way_begins core marks list next behind ordered is = (list, partly_begun (history_of core.steps) marks list behind ordered, is)

pub way_cancelled : (core : CoreValue) (marks : MarksValue) (next : Option ℕ) (s : ℕ) → IsPartway core marks next → next ≡ Some s → is_cancelled (history_of core.steps) s ≡ true
way_cancelled core marks next s way some =
    let at : slice_get way.0 marks.marked ≡ Some s = sym way.2 ∙ some in
    way.1.ordered.only s (marks.marked, slice_get_within way.0 marks.marked s at, get_or_from_slice_get way.0 marks.marked s s at)

pub way_counts : (core : CoreValue) (marks : MarksValue) (next : Option ℕ) (s : ℕ) → IsPartway core marks next → next ≡ Some s → marks.marked < length marks.setters
way_counts core marks next s way some =
    let within = slice_get_within way.0 marks.marked s (sym way.2 ∙ some) in
    let count = order_counted (history_of core.steps) way.0 way.1.ordered in
    omega (arith, within, count, way.1.each)

pub way_goes_on : (core : CoreValue) (h : History) (old mid : MarksValue) (s : ℕ) (now next : Option ℕ) (list : List ℕ) → h ≡ history_of core.steps → IsPartway core old now → now ≡ Some s → UsesSetter h s old mid
    → IsCancelOrderOf (history_of core.steps) list → next ≡ slice_get list (mid.marked + 1) → IsPartway core (record mid { marked = mid.marked + 1 }) next
way_goes_on core h old mid s now next list is way some uses ordered then =
    let k : History = history_of core.steps in
    let used = subst (λ (x : History). UsesSetter x s old mid) is uses in
    let same : list ≡ way.0 = order_unique (is_cancelled k) (cancelled_at k) list way.0 ordered way.1.ordered in
    let count : mid.marked ≡ old.marked = ap (λ (v : MarksValue). v.marked) used.kept in
    let more = partly_on k way.0 old.setters mid.setters old.marked s used.at used.before used.after way.1 (sym way.2 ∙ some) used.place used.was used.cell used.used used.each used.is used.others in
    (way.0, subst (λ n. ArePartly k way.0 mid.setters (n + 1)) (sym count) more, then ∙ ap (λ l. slice_get l (mid.marked + 1)) same)

pub way_ends : (core : CoreValue) (marks : MarksValue) (next : Option ℕ) → IsPartway core marks next → next ≡ None → AreMarks (history_of core.steps) marks
way_ends core marks next way none =
    let it = partly_ended (history_of core.steps) way.0 marks.setters marks.marked way.1 (sym way.2 ∙ none) in
    record { setters = it.0; order = way.0; ordered = way.1.ordered; counted = it.1 }
