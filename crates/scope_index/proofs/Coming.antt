-- The first deadline of the index whose scope isn't cancelled is the one that comes next.
use Rattle.std.proofs.Common.{[], ℕ, ◌+◌, ◌-◌, ◌<◌, ◌∙◌, ◌∷◌, ◌≡◌, ◌≤◌, Bool, List, None, Option, Some, ap, arith, cond, false, is_some, nat_lt, refl, slice_get, suc, sym, true, zero}
use Rattle.scope_index.specs.{AreCancelsOf, AreInOrder, AreKept, CancelTable, FirstCancel, History, IsComing, IsNextDeadline, Legal, Limits, Moments, NoDeadlineComes, Opening, ScopeNode, awaited, awaited_of, cancel_of, chain_by}
use Rattle.scope_index.specs.{counting_deadline, deadline_of, earliest_on, first_cancel_by, is_cancelled, moment, onward, opening, option_and_then, outwards, own_of, to_come}
use Rattle.scope_index.proofs.Words.{false≢true, lt-ltb, ltb-true, same_Some}
use Rattle.scope_index.proofs.{CancelReadings.cancelled_read, CancelReadings.counting_unopened, CancelReadings.deadline_read, CancelReadings.has_row, CancelReadings.numbered, ClosedCancels.live_unclosed, ClosedCancels.near_some}
use Rattle.scope_index.proofs.{Passing.none_of}
use Rattle.std.specs.FinMap as map
use Rattle.cancel_tree.specs.Rows as rows

to_come_is : (now : ℕ) (o : Option ℕ) (d : ℕ) → to_come now o ≡ Some d → (o ≡ Some d) × (now < d)
to_come_is now None d is = absurd (none_of d is)
to_come_is now (Some e) d is = by (nat_lt now e) refl
  where
    by : (b : Bool) → nat_lt now e ≡ b → (Some e ≡ Some d) × (now < d)
    by true later =
        let same : e ≡ d = same_Some e d (sym (ap (λ b. cond b (Some e) None) later) ∙ is) in
        (ap Some same, omega (arith, same, ltb-true now e later))
    by false past = absurd (none_of d (sym (ap (λ b. cond b (Some e) None) past) ∙ is))

to_come_of : (now : ℕ) (o : Option ℕ) (d : ℕ) → o ≡ Some d → now < d → to_come now o ≡ Some d
to_come_of now o d is later = ap (to_come now) is ∙ ap (λ b. cond b (Some d) None) (lt-ltb now d later)

awaited_is : (now : ℕ) (nodes : List ScopeNode) (n d : ℕ) → awaited_of now nodes n ≡ Some d → (deadline_of nodes n ≡ Some d) × (now < d)
awaited_is now nodes n d is = by (rows.row nodes n) is
  where
    by : (r : Option ScopeNode) → option_and_then (awaited now) r ≡ Some d → (option_and_then (λ (t : ScopeNode). t.deadline) r ≡ Some d) × (now < d)
    by None at = absurd (none_of d at)
    by (Some t) at = with (is_some t.own) at
      where
        with : (b : Bool) → cond b None (to_come now t.deadline) ≡ Some d → (t.deadline ≡ Some d) × (now < d)
        with true so = absurd (none_of d so)
        with false so = to_come_is now t.deadline d so

awaited_by : (now : ℕ) (nodes : List ScopeNode) (n d : ℕ) → own_of nodes n ≡ None → deadline_of nodes n ≡ Some d → now < d → awaited_of now nodes n ≡ Some d
awaited_by now nodes n d none is later = by (rows.row nodes n) none is
  where
    by : (r : Option ScopeNode) → option_and_then (λ (t : ScopeNode). t.own) r ≡ None → option_and_then (λ (t : ScopeNode). t.deadline) r ≡ Some d → option_and_then (awaited now) r ≡ Some d
    by None unowned at = absurd (none_of d at)
    by (Some t) unowned at = ap (λ o. cond (is_some o) None (to_come now t.deadline)) unowned ∙ to_come_of now t.deadline d at later

-- a scope with a deadline has a row
counted_row : (L : Limits) (h : History) (t : CancelTable) (s d : ℕ) → Legal L h → AreCancelsOf h t → counting_deadline h s ≡ Some d → t.before + (s - t.before) ≡ s
counted_row L h t s d legal was is = by (opening h s) refl
  where
    by : (o : Option Opening) → opening h s ≡ o → t.before + (s - t.before) ≡ s
    by None none = absurd (none_of d (sym (counting_unopened L h s legal none) ∙ is))
    by (Some o) there = numbered t s (has_row h t s was (record { opened = o; is = there }))

-- what the walk over the index has still before it: each deadline of a scope that isn't cancelled, the earlier first
pub record IsAhead (nodes : List ScopeNode) (moments : Moments) (pairs : List (ℕ × ℕ)) : Type 0 where
  pub each : (i : ℕ) (p : ℕ × ℕ) → slice_get pairs i ≡ Some p → map.get moments p.1 ≡ Some p.0
  pub all : (n d : ℕ) → map.get moments n ≡ Some d → cancel_of nodes n ≡ None → (i : ℕ) × (slice_get pairs i ≡ Some (d, n))
  pub in_order : (i j : ℕ) (p q : ℕ × ℕ) → i < j → slice_get pairs i ≡ Some p → slice_get pairs j ≡ Some q → p.0 ≤ q.0

pub ahead_first : (nodes : List ScopeNode) (moments : Moments) (pairs : List (ℕ × ℕ)) → AreInOrder moments pairs → IsAhead nodes moments pairs
ahead_first nodes moments pairs order = record { each = order.each; all = λ n d is live. order.all n d is; in_order = order.in_order }

-- the first pair is of a cancelled scope
pub ahead_next : (nodes : List ScopeNode) (moments : Moments) (p : ℕ × ℕ) (pairs : List (ℕ × ℕ)) → IsAhead nodes moments (p ∷ pairs) → is_some (cancel_of nodes p.1) ≡ true → IsAhead nodes moments pairs
ahead_next nodes moments p pairs was over = record {
  each = λ i q is. was.each (suc i) q is;
  all = λ n d is live. by n d live (was.all n d is live);
  in_order = λ i j q r lt is that. was.in_order (suc i) (suc j) q r (omega (arith, lt)) is that;
}
  where
    by : (n d : ℕ) → cancel_of nodes n ≡ None → (i : ℕ) × (slice_get (p ∷ pairs) i ≡ Some (d, n)) → (i : ℕ) × (slice_get pairs i ≡ Some (d, n))
    by n d live (zero, is) =
        let same : p.1 ≡ n = ap (λ (q : ℕ × ℕ). q.1) (same_Some p (d, n) is) in
        absurd (false≢true (sym (ap is_some (ap (cancel_of nodes) same ∙ live)) ∙ over))
    by n d live (suc i, is) = (i, is)

-- a scope that isn't cancelled has no own cancel
own_none : (nodes : List ScopeNode) (n : ℕ) → cancel_of nodes n ≡ None → own_of nodes n ≡ None
unfolding first_cancel_by chain_by
own_none nodes n live = by (own_of nodes n) refl
  where
    by : (o : Option FirstCancel) → own_of nodes n ≡ o → o ≡ None
    by None is = refl
    by (Some c) is =
        let some = near_some (own_of nodes n) (earliest_on (own_of nodes) (onward (rows.outer_of nodes n) (outwards (rows.outer_of nodes) n))) (ap is_some is) in
        absurd (false≢true (sym (ap is_some live) ∙ some))

-- a scope whose deadline comes has its pair in the index
comes_there : (L : Limits) (h : History) (t : CancelTable) (moments : Moments) (s d : ℕ) → AreKept t.before t.moment t.nodes t.accounts moments → Legal L h → AreCancelsOf h t → IsComing h s d
    → (map.get moments (s - t.before) ≡ Some d) × (cancel_of t.nodes (s - t.before) ≡ None)
comes_there L h t moments s d kept legal was comes =
    let n = s - t.before in
    let at = counted_row L h t s d legal was comes.counts in
    let deadline : deadline_of t.nodes n ≡ Some d = sym (ap (counting_deadline h) (sym at) ∙ deadline_read L h t legal was n) ∙ comes.counts in
    let live : cancel_of t.nodes n ≡ None = is_none _ (sym (ap (is_cancelled h) (sym at) ∙ cancelled_read L h t n legal was) ∙ comes.live) in
    (kept.indexed n ∙ awaited_by t.moment t.nodes n d (own_none t.nodes n live) deadline (omega (arith, was.moment, comes.coming)), live)
  where
    is_none : (o : Option FirstCancel) → is_some o ≡ false → o ≡ None
    is_none None none = refl
    is_none (Some c) none = absurd cc

pub next_found : (L : Limits) (h : History) (t : CancelTable) (moments : Moments) (p : ℕ × ℕ) (pairs : List (ℕ × ℕ)) → AreKept t.before t.moment t.nodes t.accounts moments → IsAhead t.nodes moments (p ∷ pairs) → is_some (cancel_of t.nodes p.1) ≡ false → Legal L h → AreCancelsOf h t → IsNextDeadline h p.0
next_found L h t moments p pairs kept ahead live legal was =
    let n = p.1 in
    let there = awaited_is t.moment t.nodes n p.0 (sym (kept.indexed n) ∙ ahead.each 0 p refl) in
    let alive : is_cancelled h (t.before + n) ≡ false = cancelled_read L h t n legal was ∙ live in
    record {
      scope = t.before + n;
      comes = record {
        counts = deadline_read L h t legal was n ∙ there.0;
        unclosed = live_unclosed L h (t.before + n) legal alive;
        live = alive;
        coming = omega (arith, was.moment, there.1);
      };
      earliest = λ s later comes.
          let it = comes_there L h t moments s later kept legal was comes in
          no_earlier s later (ahead.all (s - t.before) later it.0 it.1);
    }
  where
    no_earlier : (s later : ℕ) → (i : ℕ) × (slice_get (p ∷ pairs) i ≡ Some (later, s - t.before)) → p.0 ≤ later
    no_earlier s later (zero, is) = (let same : p.0 ≡ later = ap (λ (q : ℕ × ℕ). q.0) (same_Some p (later, s - t.before) is) in omega (arith, same))
    no_earlier s later (suc i, is) = ahead.in_order 0 (suc i) p (later, s - t.before) (omega arith) refl is

pub none_comes : (L : Limits) (h : History) (t : CancelTable) (moments : Moments) → AreKept t.before t.moment t.nodes t.accounts moments → IsAhead t.nodes moments [] → Legal L h → AreCancelsOf h t → NoDeadlineComes h
none_comes L h t moments kept ahead legal was s d comes =
    let it = comes_there L h t moments s d kept legal was comes in
    let place = ahead.all (s - t.before) d it.0 it.1 in
    absurd (none_of (d, s - t.before) place.1)
