-- What one event more makes of verdicts, and what the beginning of a close covers.
use Rattle.std.proofs.Common.{[], ℕ, ◌&&◌, ◌++◌, ◌+◌, ◌<◌, ◌==◌, ◌||◌, ◌∙◌, ◌∷◌, ◌≡◌, ◌≢◌, Bool, None, Option, Some, ap, arith, false, inl, inr, length, length-append, nat_lt, not, refl, suc, sym, true}
use Rattle.scope_rules.specs.{Event, History.History, Opening, begins_for, closed, covers, covers_another, covers_other, followed, have_one_opener, is_innermost, list_any, opened_count, opening, option_map_or, scope_numbers}
use Rattle.scope_rules.specs.{some_below, violated, violating_at}
use Rattle.scope_rules.proofs.Words.{and_parts, eq-eqb, eqb-true, false_from_ne_true, lt-ltb, ltb-true, ne_eqb, not-true, or_cases}
use Rattle.scope_rules.proofs.{Earlier.scope_number, Heights.any_where, Heights.range_any, Innermosts.innermost_later, Innermosts.innermost_unclosed, Innermosts.unclosed_innermost, OneEventMore.last_event}
use Rattle.scope_rules.proofs.{OneEventMore.some_below_same, PassedRows.innermost_passed, Prefixes.get_push, Pushing.before_last, Pushing.before_push}

violating_earlier : (h : History) (e : Event) (s i : ℕ) → i < length h.events → violating_at (followed h e) s i ≡ violating_at h s i
violating_earlier h e s i within = rw (before_push h e i (omega arith)) (rw (get_push h.events e i within) refl)

violating_last : (h : History) (e : Event) (s : ℕ) → violating_at (followed h e) s (length h.events) ≡ begins_for h s e
violating_last h e s = rw (before_last h e) (rw (last_event h.events e) refl)

-- a close was out of order after one event more if it was before, or the event begins it so
pub violated_grows : (h : History) (e : Event) (s : ℕ) → violated (followed h e) s ≡ (violated h s || begins_for h s e)
unfolding violated some_below
violated_grows h e s =
    let longer : length (h.events ++ e ∷ []) ≡ suc (length h.events) = length-append h.events (e ∷ []) ∙ omega arith in
    rw longer
    (rw (some_below_same (violating_at (followed h e) s) (violating_at h s) (length h.events) (λ i within. violating_earlier h e s i within))
    (ap (λ b. some_below (violating_at h s) (length h.events) || b) (violating_last h e s)))

one_opener : (o : Opening) (p : Option Opening) → have_one_opener (Some o) p ≡ true → (x : Opening) × (p ≡ Some x) × (x.actor ≡ o.actor)
one_opener o None is = absurd cc
one_opener o (Some x) is = (x, refl, sym (eqb-true o.actor x.actor is))

-- a later unclosed scope of the opener
record CoversLater (h : History) (s t : ℕ) (o : Opening) : Type 0 where
  opened : Opening
  is : opening h t ≡ Some opened
  by : opened.actor ≡ o.actor
  later : s < t
  unclosed : closed h t ≡ false

covered_other : (h : History) (s t : ℕ) (o : Opening) → opening h s ≡ Some o → covers_other h s t ≡ true → CoversLater h s t o
unfolding covers
covered_other h s t o is it =
    let parts = and_parts (not (t == s)) (covers h s t) it in
    let other : (t == s) ≡ false = not-true (t == s) parts.0 in
    elim (or_cases (s == t) (nat_lt s t && not (closed h t) && have_one_opener (opening h s) (opening h t)) parts.1) [
      | inl same ↦ absurd (cc (other, eq-eqb t s (sym (eqb-true s t same))))
      | inr after ↦
          let last = and_parts (nat_lt s t && not (closed h t)) (have_one_opener (opening h s) (opening h t)) after in
          let first = and_parts (nat_lt s t) (not (closed h t)) last.0 in
          let found = one_opener o (opening h t) (rw is at last.1) in
          record { opened = found.0; is = found.1; by = found.2; later = ltb-true s t first.0; unclosed = not-true (closed h t) first.1 }
    ]

covers_it : (h : History) (s t : ℕ) (o x : Opening) → opening h s ≡ Some o → opening h t ≡ Some x → x.actor ≡ o.actor → s < t → closed h t ≡ false → covers_other h s t ≡ true
unfolding covers
covers_it h s t o x is at by later unclosed =
    let apart : (t == s) ≡ false = ne_eqb t s (λ same. absurd (omega (arith, same, later))) in
    let different : (s == t) ≡ false = ne_eqb s t (λ same. absurd (omega (arith, same, later))) in
    let less : nat_lt s t ≡ true = lt-ltb s t later in
    let opener : (o.actor == x.actor) ≡ true = eq-eqb o.actor x.actor (sym by) in
    rw apart (rw different (rw less (rw unclosed (rw is (rw at opener)))))

not_same : (m n : ℕ) → (m == n) ≡ false → m ≢ n
not_same m n apart same = absurd (cc (apart, eq-eqb m n same))

covers_none : (h : History) (s : ℕ) (o : Opening) → opening h s ≡ Some o → is_innermost h o.actor s ≡ true → covers_another h s ≡ false
unfolding covers_another
covers_none h s o is here =
    false_from_ne_true (list_any (covers_other h s) (scope_numbers h))
    (λ found.
    let at = any_where (covers_other h s) (scope_numbers h) found in
    let it = covered_other h s at.0 o is at.1 in
    let closed_it = innermost_later h o.actor s at.0 it.opened (innermost_passed h o.actor s here) it.is it.by it.later in
    absurd (cc (closed_it, it.unclosed)))

finds_innermost : (h : History) (s : ℕ) (o : Opening) → opening h s ≡ Some o → closed h s ≡ false → is_innermost h o.actor s ≡ false → covers_another h s ≡ true
unfolding covers_another is_innermost
finds_innermost h s o is unclosed other =
    let it = unclosed_innermost h o.actor s (record { opened = o; is = is; by = refl; unclosed = unclosed }) in
    let t = it.scope in
    let apart : (t == s) ≡ false = sym (ap (λ i. option_map_or (λ n. n == s) i false) it.is) ∙ other in
    let own = innermost_unclosed h o.actor t it.is in
    let later : s < t = omega (arith, it.least, not_same t s apart) in
    let number = scope_number h t own.opened own.is in
    let place : (h.base.scopes + 1) + number.0 ≡ t = omega (arith, number.2) in
    range_any (covers_other h s) (h.base.scopes + 1) (opened_count h) number.0 number.1 (ap (covers_other h s) place ∙ covers_it h s t o own.opened is own.is own.by later own.unclosed)

-- the beginning of the close of an unclosed scope covers another if the scope isn't its owner's innermost
pub covers_by_innermost : (h : History) (s : ℕ) (o : Opening) → opening h s ≡ Some o → closed h s ≡ false → covers_another h s ≡ not (is_innermost h o.actor s)
covers_by_innermost h s o is unclosed = by (is_innermost h o.actor s) refl
  where
    by : (b : Bool) → is_innermost h o.actor s ≡ b → covers_another h s ≡ not b
    by false other = finds_innermost h s o is unclosed other
    by true here = covers_none h s o is here
