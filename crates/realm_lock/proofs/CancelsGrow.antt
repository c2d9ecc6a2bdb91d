-- As a history goes on, marks stay, and new ones come behind them.
use Rattle.std.proofs.Common.{[], ℕ, ◌++◌, ◌-◌, ◌<◌, ◌∙◌, ◌∷◌, ◌≡◌, ◌≤◌, AllPairs, Bool, Contains, List, None, Option, Some, ap, arith, cond, false, filter, get_or, inl, inr, is_some, length, length-append, max, not, refl, subst}
use Rattle.std.proofs.Common.{suc, sym, true, zero}
use Rattle.realm_lock.specs.{Cancellation, CancelsGrow, Event, FirstCancel, History, IsBefore, IsCancelOrderOf, IsInOrder, Legal, Limits, Opening, cancelled_at, cause, first_cancel, followed, is_cancelled, mark_of, opening}
use Rattle.realm_lock.proofs.Words.{AllPairs-filter, Contains-append_cases, Contains-append_left, Contains-append_right, Contains-get_or, both_ways, cancel_new, cancel_opened, cancel_stays, cancel_within_history, cases_lt}
use Rattle.realm_lock.proofs.Words.{get_or-append_right, get_or_append_left, opening_shown, opening_split, opening_stays, opening_within, order_unique}

-- ---- what a mark says, by the scope's first cancel

uncancelled_unmarked : (h : History) (s : ℕ) → first_cancel h s ≡ None → mark_of h s ≡ None
unfolding cause cancelled_at
uncancelled_unmarked h s none = by (opening h s) refl
  where
    by : (o : Option Opening) → opening h s ≡ o → mark_of h s ≡ None
    by None is = rw is refl
    by (Some o) is = rw is (rw none refl)

marked_by : (h : History) (s : ℕ) (o : Opening) (c : FirstCancel) → opening h s ≡ Some o → first_cancel h s ≡ Some c → mark_of h s ≡ Some (record { cause = c.cause; number = max o.place c.place })
unfolding cause cancelled_at
marked_by h s o c is found = rw is (rw found refl)

-- a mark is of a first cancel of an opened scope
pub record IsMarked (h : History) (s : ℕ) (m : Cancellation) : Type 0 where
  pub opened : Opening
  pub is : opening h s ≡ Some opened
  pub by : FirstCancel
  pub found : first_cancel h s ≡ Some by
  pub says : m ≡ record { cause = by.cause; number = max opened.place by.place }

pub marked : (h : History) (s : ℕ) (m : Cancellation) → mark_of h s ≡ Some m → IsMarked h s m
marked h s m is = by (first_cancel h s) refl
  where
    by : (k : Option FirstCancel) → first_cancel h s ≡ k → IsMarked h s m
    by None none = absurd (let nothing = uncancelled_unmarked h s none in cc (nothing, is))
    by (Some c) found =
        let it = cancel_opened h s c (opening h s) found refl in
        let says = marked_by h s it.opened c it.is found in
        record { opened = it.opened; is = it.is; by = c; found = found; says = cc (says, is) }

-- a scope has a mark if it is cancelled, with the place at which it became so
pub mark_there : (h : History) (s : ℕ) → is_cancelled h s ≡ true → (m : Cancellation) × (mark_of h s ≡ Some m)
unfolding is_cancelled
mark_there h s is = by (first_cancel h s) refl
  where
    by : (k : Option FirstCancel) → first_cancel h s ≡ k → (m : Cancellation) × (mark_of h s ≡ Some m)
    by None none = absurd (let nothing = ap is_some none in cc (nothing, is))
    by (Some c) found = let it = cancel_opened h s c (opening h s) found refl in (record { cause = c.cause; number = max it.opened.place c.place }, marked_by h s it.opened c it.is found)

pub cancelled_there : (h : History) (s : ℕ) (m : Cancellation) → mark_of h s ≡ Some m → (is_cancelled h s ≡ true) × (cancelled_at h s ≡ Some m.number)
unfolding is_cancelled cancelled_at
cancelled_there h s m is =
    let it = marked h s m is in
    (ap is_some it.found, rw it.is (rw it.found (ap (λ (x : Cancellation). Some x.number) (sym it.says))))

pub unmarked : (h : History) (s : ℕ) → is_cancelled h s ≡ false → mark_of h s ≡ None
unmarked h s live = by (mark_of h s) refl
  where
    by : (k : Option Cancellation) → mark_of h s ≡ k → k ≡ None
    by None none = refl
    by (Some m) is = absurd (both_ways (is_cancelled h s) live (cancelled_there h s m is).0)

-- ---- as a history goes on

pub no_more : (h : History) → CancelsGrow h h
no_more h = record {
  base = refl;
  longer = omega arith;
  kept = λ s m is. (let it = marked h s m is in (is, (let o = opening_within h s it.opened it.is in let c = cancel_within_history h s it.by it.found in let n = ap (λ (x : Cancellation). x.number) it.says in omega (arith, o, c, n))));
  fresh = λ s m none is. absurd (cc (none, is));
}

-- by one event more
pub grows_by : (L : Limits) (h : History) (e : Event) → Legal L h → CancelsGrow h (followed h e)
grows_by L h e legal = record {
  base = refl;
  longer = omega (arith, length-append h.events (e ∷ []));
  kept = kept;
  fresh = fresh;
}
  where
    kept : (s : ℕ) (m : Cancellation) → mark_of h s ≡ Some m → (mark_of (followed h e) s ≡ Some m) × (m.number < length h.events)
    kept s m is =
        let it = marked h s m is in
        let there = marked_by (followed h e) s it.opened it.by (opening_stays h e s it.opened it.is) (cancel_stays L h e s it.by legal it.found) in
        (there ∙ ap Some (sym it.says), ((no_more h).kept s m is).1)

    fresh : (s : ℕ) (m : Cancellation) → mark_of h s ≡ None → mark_of (followed h e) s ≡ Some m → length h.events ≤ m.number
    fresh s m none is =
        let it = marked (followed h e) s m is in
        let n = ap (λ (x : Cancellation). x.number) it.says in
        elim (opening_split h e s it.opened it.is) [
          | inl there ↦
              let no_first_cancel : first_cancel h s ≡ None = no_cancel s it.opened there none in
              let new = cancel_new L h e s it.by legal (record { opened = it.opened; is = there }) no_first_cancel it.found in
              omega (arith, n, new)
          | inr now ↦ let place = (opening_shown (length h.events) e it.opened now.1).0 in omega (arith, n, place)
        ]
      where
        no_cancel : (s : ℕ) (o : Opening) → opening h s ≡ Some o → mark_of h s ≡ None → first_cancel h s ≡ None
        no_cancel s o is none = by (first_cancel h s) refl
          where
            by : (k : Option FirstCancel) → first_cancel h s ≡ k → k ≡ None
            by None no_first_cancel = refl
            by (Some c) found = absurd (let m = marked_by h s o c is found in cc (m, none))

pub grows_on : (h k l : History) → CancelsGrow h k → CancelsGrow k l → CancelsGrow h l
grows_on h k l one other = record {
  base = other.base ∙ one.base;
  longer = (let a = one.longer in let b = other.longer in omega arith);
  kept = λ s m is. (let there = one.kept s m is in ((other.kept s m there.0).0, there.1));
  fresh = λ s m none is. by s m none is (mark_of k s) refl;
}
  where
    by : (s : ℕ) (m : Cancellation) → mark_of h s ≡ None → mark_of l s ≡ Some m → (x : Option Cancellation) → mark_of k s ≡ x → length h.events ≤ m.number
    by s m none is None nowhere = let late = other.fresh s m nowhere is in let a = one.longer in omega arith
    by s m none is (Some n) there =
        let same : m ≡ n = (let it = (other.kept s n there).0 in cc (it, is)) in
        subst (λ (x : Cancellation). length h.events ≤ x.number) (sym same) (one.fresh s n none there)

-- ---- so the order of cancels goes on at its end

kept_in : (b : Bool) (x : ℕ) (xs : List ℕ) (s : ℕ) → Contains xs s → Contains (cond b (x ∷ xs) xs) s
kept_in true x xs s (k, lt, e) = (suc k, omega (arith, lt), e)
kept_in false x xs s there = there

in_filter : (p : ℕ → Bool) (xs : List ℕ) (s : ℕ) → Contains xs s → p s ≡ true → Contains (filter p xs) s
in_filter p [] s there is = there
in_filter p (x ∷ xs) s (zero, lt, e) is = subst (λ b. Contains (cond b (x ∷ filter p xs) (filter p xs)) s) (sym (ap p e ∙ is)) (zero, omega arith, e)
in_filter p (x ∷ xs) s (suc k, lt, e) is = kept_in (p x) x (filter p xs) s (in_filter p xs s (k, omega (arith, lt), e) is)

of_filter : (p : ℕ → Bool) (xs : List ℕ) (s : ℕ) → Contains (filter p xs) s → Contains xs s × (p s ≡ true)
of_filter p [] s there = absurd (let none = there.1 in omega (arith, none))
of_filter p (x ∷ xs) s there = by (of_filter p xs s) (p x) refl there
  where
    later : Contains xs s × (p s ≡ true) → Contains (x ∷ xs) s × (p s ≡ true)
    later it = let lt = it.0.1 in ((suc it.0.0, omega (arith, lt), it.0.2), it.1)

    by : (Contains (filter p xs) s → Contains xs s × (p s ≡ true)) → (b : Bool) → p x ≡ b → Contains (cond b (x ∷ filter p xs) (filter p xs)) s → Contains (x ∷ xs) s × (p s ≡ true)
    by below true is (zero, lt, e) = ((zero, omega arith, e), ap p (sym e) ∙ is)
    by below true is (suc k, lt, e) = later (below (k, omega (arith, lt), e))
    by below false is rest = later (below rest)

pairs_append : (R : ℕ → ℕ → Type 0) (xs ys : List ℕ) → AllPairs R xs → AllPairs R ys → ((s t : ℕ) → Contains xs s → Contains ys t → R s t) → AllPairs R (xs ++ ys)
pairs_append R xs ys one other across i j d lt within =
    elim (cases_lt j (length xs)) [
      | inl second ↦
          let first : i < length xs = omega (arith, lt, second) in
          subst (λ x. R x (get_or (xs ++ ys) j d)) (sym (get_or_append_left xs ys d i first)) (subst (R (get_or xs i d)) (sym (get_or_append_left xs ys d j second)) (one i j d lt second))
      | inr second ↦
          let inside : j - length xs < length ys = omega (arith, second, within, length-append xs ys) in
          subst (R (get_or (xs ++ ys) i d)) (sym (get_or-append_right xs ys (length xs) j d refl second)) (elim (cases_lt i (length xs)) [
            | inl first ↦ subst (λ x. R x (get_or ys (j - length xs) d)) (sym (get_or_append_left xs ys d i first)) (across (get_or xs i d) (get_or ys (j - length xs) d) (Contains-get_or xs i d first) (Contains-get_or ys (j - length xs) d inside))
            | inr first ↦ subst (λ x. R x (get_or ys (j - length xs) d)) (sym (get_or-append_right xs ys (length xs) i d refl first)) (other (i - length xs) (j - length xs) d (omega (arith, lt, first)) inside)
          ])
    ]

pub order_grows : (h k : History) (xs ys : List ℕ) → CancelsGrow h k → IsCancelOrderOf h xs → IsCancelOrderOf k ys → (more : List ℕ) × (ys ≡ xs ++ more)
order_grows h k xs ys grows one other = (more, sym (order_unique (is_cancelled k) (cancelled_at k) (xs ++ more) ys whole other))
  where
    more : List ℕ
    more = filter (λ s. not (is_cancelled h s)) ys

    stays : (s : ℕ) → is_cancelled h s ≡ true → is_cancelled k s ≡ true
    stays s is = let m = mark_there h s is in (cancelled_there k s m.0 (grows.kept s m.0 m.1).0).0

    placed : (s : ℕ) (n : ℕ) → cancelled_at h s ≡ Some n → is_cancelled h s ≡ true → cancelled_at k s ≡ Some n
    placed s n at is =
        let m = mark_there h s is in
        let here = (cancelled_there h s m.0 m.1).1 in
        let there = (cancelled_there k s m.0 (grows.kept s m.0 m.1).0).1 in
        cc (here, there, at)

    before : (s t : ℕ) → IsBefore (cancelled_at h) s t → is_cancelled h s ≡ true → is_cancelled h t ≡ true → IsBefore (cancelled_at k) s t
    before s t b one other = record { first = b.first; then = b.then; is_first = placed s b.first b.is_first one; is_then = placed t b.then b.is_then other; not_later = b.not_later; by_number = b.by_number }

    across : (s t : ℕ) → Contains xs s → Contains more t → IsBefore (cancelled_at k) s t
    across s t in_xs in_more =
        let new = of_filter (λ x. not (is_cancelled h x)) ys t in_more in
        let m = mark_there h s (one.only s in_xs) in
        let old = grows.kept s m.0 m.1 in
        let n = mark_there k t (other.only t new.0) in
        let late = grows.fresh t n.0 (unmarked h t (not_true (is_cancelled h t) new.1)) n.1 in
        record {
          first = m.0.number;
          then = n.0.number;
          is_first = (cancelled_there k s m.0 old.0).1;
          is_then = (cancelled_there k t n.0 n.1).1;
          not_later = (let a = old.1 in omega (arith, a, late));
          by_number = λ e. absurd (let a = old.1 in omega (arith, a, late, e));
        }
      where
        not_true : (b : Bool) → not b ≡ true → b ≡ false
        not_true false is = refl
        not_true true is = absurd cc

    whole : IsInOrder (is_cancelled k) (cancelled_at k) (xs ++ more)
    whole = record {
      all = all;
      only = only;
      ascends = pairs_append (IsBefore (cancelled_at k)) xs more old (AllPairs-filter (IsBefore (cancelled_at k)) (λ s. not (is_cancelled h s)) ys other.ascends) across;
    }
      where
        all : (s : ℕ) → is_cancelled k s ≡ true → Contains (xs ++ more) s
        all s is = by (is_cancelled h s) refl
          where
            by : (b : Bool) → is_cancelled h s ≡ b → Contains (xs ++ more) s
            by true was = Contains-append_left xs more s (one.all s was)
            by false was = Contains-append_right xs more s (in_filter (λ x. not (is_cancelled h x)) ys s (other.all s is) (ap not was))

        only : (s : ℕ) → Contains (xs ++ more) s → is_cancelled k s ≡ true
        only s there = elim (Contains-append_cases xs more s there) [
          | inl old ↦ stays s (one.only s old)
          | inr new ↦ other.only s (of_filter (λ x. not (is_cancelled h x)) ys s new).0
        ]

        old : AllPairs (IsBefore (cancelled_at k)) xs
        old i j d lt within = before (get_or xs i d) (get_or xs j d) (one.ascends i j d lt within) (one.only _ (Contains-get_or xs i d (omega (arith, lt, within)))) (one.only _ (Contains-get_or xs j d within))
