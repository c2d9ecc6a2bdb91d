-- The scopes that the walk marks are those that the beginning of a close covers.
use Rattle.std.proofs.Common.{[], ℕ, ◌&&◌, ◌+◌, ◌<◌, ◌==◌, ◌||◌, ◌∙◌, ◌∷◌, ◌≡◌, ◌≢◌, ◌≤◌, ◌⊎◌, Bool, List, None, Option, Some, ap, arith, cond, false, inl, inr, nat_lt, not, refl, slice_get, subst, suc, sym, true, zero}
use Rattle.scope_rows.specs.{History, Opening, ScopeRow, altered, below_of, closed, closing_row, covers, have_one_opener, marked_within, opening, option_and_then, option_map, place_of}
use Rattle.scope_rows.proofs.Words.{HasUnclosed, and_parts, both_ways, cases_eq, eq-eqb, eqb-true, lt-ltb, ltb-true, ne_eqb, not-true, or_cases}
use Rattle.scope_rows.proofs.{Altering.altered_other, Marking.marked_none, Places.number_at, Walks.IsGreatestBelow}

-- the element at a changed place, if there is one
altered_at : {R : Type 0} (f : R → R) (xs : List R) (i : ℕ) → slice_get (altered f xs i) i ≡ option_map f (slice_get xs i)
altered_at f [] i = refl
altered_at f (x ∷ xs) zero = refl
altered_at f (x ∷ xs) (suc i) = altered_at f xs i

-- what is below a scope stays if a row is marked
below_by : (rows : List ScopeRow) (p i : ℕ) → option_and_then (λ (r : ScopeRow). r.below) (slice_get (altered closing_row rows p) i) ≡ option_and_then (λ (r : ScopeRow). r.below) (slice_get rows i)
below_by rows p i =
    elim (cases_eq i p) [
      | inl same ↦ ap (λ n. option_and_then (λ (r : ScopeRow). r.below) (slice_get (altered closing_row rows n) i)) (sym same) ∙ (ap (option_and_then (λ (r : ScopeRow). r.below)) (altered_at closing_row rows i) ∙ kept (slice_get rows i))
      | inr apart ↦ ap (option_and_then (λ (r : ScopeRow). r.below)) (altered_other closing_row rows p i apart)
    ]
  where
    kept : (o : Option ScopeRow) → option_and_then (λ (r : ScopeRow). r.below) (option_map closing_row o) ≡ option_and_then (λ (r : ScopeRow). r.below) o
    kept None = refl
    kept (Some r) = refl

-- and so do all
below_kept : (b : ℕ) (rows : List ScopeRow) (p u : ℕ) → below_of b (altered closing_row rows p) u ≡ below_of b rows u
below_kept b rows p u = by (nat_lt b u)
  where
    by : (c : Bool) → option_and_then (λ (r : ScopeRow). r.below) (cond c (slice_get (altered closing_row rows p) (place_of b u)) None) ≡ option_and_then (λ (r : ScopeRow). r.below) (cond c (slice_get rows (place_of b u)) None)
    by true = below_by rows p (place_of b u)
    by false = refl

-- below each unclosed scope of the actor is the greatest that it has there, and the scope has a number after those before
abbrev pub AreBelow : History → ℕ → ℕ → List ScopeRow → Type 0
AreBelow h a b rows = (u : ℕ) → HasUnclosed h a u → IsGreatestBelow h a u (below_of b rows u) × (b < u)

one_opener : (o : Opening) (p : Option Opening) → have_one_opener (Some o) p ≡ true → (x : Opening) × (p ≡ Some x) × (x.actor ≡ o.actor)
one_opener o None is = absurd cc
one_opener o (Some x) is = (x, refl, sym (eqb-true o.actor x.actor is))

-- what is covered is an unclosed scope of the actor, from s on
pub covered_unclosed : (h : History) (a s k : ℕ) → HasUnclosed h a s → covers h s k ≡ true → HasUnclosed h a k × (s ≤ k)
unfolding covers
covered_unclosed h a s k it found =
    elim (or_cases (s == k) (nat_lt s k && not (closed h k) && have_one_opener (opening h s) (opening h k)) found) [
      | inl same ↦ let one : s ≡ k = eqb-true s k same in (subst (HasUnclosed h a) one it, omega (arith, one))
      | inr after ↦
          let last = and_parts (nat_lt s k && not (closed h k)) (have_one_opener (opening h s) (opening h k)) after in
          let first = and_parts (nat_lt s k) (not (closed h k)) last.0 in
          let opener = one_opener it.opened (opening h k) (rw it.is at last.1) in (
            record { opened = opener.0; is = opener.1; by = opener.2 ∙ it.by; unclosed = not-true (closed h k) first.1 },
            let less = ltb-true s k first.0 in omega arith,
          )
    ]

-- a later unclosed scope of the opener is covered
covers_later : (h : History) (s k : ℕ) (o x : Opening) → opening h s ≡ Some o → opening h k ≡ Some x → x.actor ≡ o.actor → s < k → closed h k ≡ false → covers h s k ≡ true
unfolding covers
covers_later h s k o x is at by later unclosed =
    let different : (s == k) ≡ false = ne_eqb s k (λ same. absurd (omega (arith, same, later))) in
    let less : nat_lt s k ≡ true = lt-ltb s k later in
    let opener : (o.actor == x.actor) ≡ true = eq-eqb o.actor x.actor (sym by) in
    rw different (rw less (rw unclosed (rw is (rw at opener))))

-- a scope is covered by its own close
covers_same : (h : History) (s k : ℕ) → s ≡ k → covers h s k ≡ true
unfolding covers
covers_same h s k same = ap (λ b. b || (nat_lt s k && not (closed h k) && have_one_opener (opening h s) (opening h k))) (eq-eqb s k same)

-- and each of those is covered
pub unclosed_covered : (h : History) (a s k : ℕ) → HasUnclosed h a s → HasUnclosed h a k → s ≤ k → covers h s k ≡ true
unclosed_covered h a s k it other less =
    elim (cases_eq s k) [
      | inl same ↦ covers_same h s k same
      | inr apart ↦ covers_later h s k it.opened other.opened it.is other.is (other.by ∙ sym it.by) (omega (arith, less, apart)) other.unclosed
    ]

-- what the walk from scope n down to s makes of the rows
pub record Marks (h : History) (b s n : ℕ) (rows marked : List ScopeRow) : Type 0 where
  pub hit : (i : ℕ) → covers h s ((b + 1) + i) ≡ true → (b + 1) + i ≤ n → slice_get marked i ≡ option_map closing_row (slice_get rows i)
  pub missed : (i : ℕ) → (covers h s ((b + 1) + i) ≡ false) ⊎ (n < (b + 1) + i) → slice_get marked i ≡ slice_get rows i

-- another number has another place
other_place : (b i n : ℕ) → b < n → (b + 1) + i ≢ n → i ≢ place_of b n
other_place b i n more apart same = apart (ap (λ j. (b + 1) + j) same ∙ number_at b n more)

-- a number has its place
same_place : (b i n : ℕ) → (b + 1) + i ≡ n → i ≡ place_of b n
same_place b i n same = omega (arith, same)

module _ (h : History) (a b s : ℕ) (it : HasUnclosed h a s) where
  -- the walk ends at s
  marks_end : (rows : List ScopeRow) → b < s → Marks h b s s rows (altered closing_row rows (place_of b s))
  marks_end rows more = record {
    hit = λ i covered within.
        let k = (b + 1) + i in
        let place : i ≡ place_of b s = same_place b i s (omega (arith, within, (covered_unclosed h a s k it covered).1)) in
        ap (λ p. slice_get (altered closing_row rows p) i) (sym place) ∙ altered_at closing_row rows i;
    missed = λ i out. altered_other closing_row rows (place_of b s) i (other_place b i s more (λ same. out_apart i out same));
  }
    where
      out_apart : (i : ℕ) → (covers h s ((b + 1) + i) ≡ false) ⊎ (s < (b + 1) + i) → (b + 1) + i ≡ s → ⊥
      out_apart i (inl uncovered) same = both_ways (covers h s ((b + 1) + i)) uncovered (covers_same h s ((b + 1) + i) (sym same))
      out_apart i (inr beyond) same = absurd (omega (arith, beyond, same))

  -- a scope above s is marked, and the rest from the one below it
  marks_step : (rows marked : List ScopeRow) (n p : ℕ) → HasUnclosed h a n → s < n → b < n → p < n → ((u : ℕ) → HasUnclosed h a u → u < n → u ≤ p) → Marks h b s p (altered closing_row rows (place_of b n)) marked → Marks h b s n rows marked
  marks_step rows marked n p own above more less greatest rest = record {
    hit = λ i covered within. hit_by i covered within (cases_eq ((b + 1) + i) n);
    missed = λ i out.
        let apart = other_place b i n more (λ same. out_apart i out same) in
        rest.missed i (still_out i out) ∙ altered_other closing_row rows (place_of b n) i apart;
  }
    where
      hit_by : (i : ℕ) → covers h s ((b + 1) + i) ≡ true → (b + 1) + i ≤ n → ((b + 1) + i ≡ n) ⊎ ((b + 1) + i ≢ n) → slice_get marked i ≡ option_map closing_row (slice_get rows i)
      hit_by i covered within (inl same) =
          let place : i ≡ place_of b n = same_place b i n same in
          rest.missed i (inr (omega (arith, same, less))) ∙ (ap (λ q. slice_get (altered closing_row rows q) i) (sym place) ∙ altered_at closing_row rows i)
      hit_by i covered within (inr apart) =
          let k = (b + 1) + i in
          let below = greatest k (covered_unclosed h a s k it covered).0 (omega (arith, within, apart)) in
          rest.hit i covered below ∙ ap (option_map closing_row) (altered_other closing_row rows (place_of b n) i (other_place b i n more apart))

      out_apart : (i : ℕ) → (covers h s ((b + 1) + i) ≡ false) ⊎ (n < (b + 1) + i) → (b + 1) + i ≡ n → ⊥
      out_apart i (inl uncovered) same = both_ways (covers h s ((b + 1) + i)) uncovered (ap (covers h s) same ∙ unclosed_covered h a s n it own (omega (arith, above)))
      out_apart i (inr beyond) same = absurd (omega (arith, beyond, same))

      still_out : (i : ℕ) → (covers h s ((b + 1) + i) ≡ false) ⊎ (n < (b + 1) + i) → (covers h s ((b + 1) + i) ≡ false) ⊎ (p < (b + 1) + i)
      still_out i (inl uncovered) = inl uncovered
      still_out i (inr beyond) = inr (omega (arith, beyond, less))

  -- the marks leave what is below
  below_on : (rows : List ScopeRow) (p : ℕ) → AreBelow h a b rows → AreBelow h a b (altered closing_row rows p)
  below_on rows p are u own = let was = are u own in (subst (IsGreatestBelow h a u) (sym (below_kept b rows p u)) was.0, was.1)

  -- the walk marks what is covered
  pub marks : (m n : ℕ) (rows : List ScopeRow) → HasUnclosed h a n → s ≤ n → n + 1 ≤ m → AreBelow h a b rows → Marks h b s n rows (marked_within m b s (Some n) rows)
  marks zero n rows own above enough are = absurd (omega (arith, enough))
  marks (suc m) n rows own above enough are =
      by (n == s) refl (λ p it_own up fits. marks m p (altered closing_row rows (place_of b n)) it_own up fits (below_on rows (place_of b n) are))
    where
      greatest_one : (p q u : ℕ) → Some p ≡ Some q → u ≤ q → u ≤ p
      greatest_one p q u same less = let one : p ≡ q = cc in omega (arith, one, less)

      by : (c : Bool) → (n == s) ≡ c → ((p : ℕ) → HasUnclosed h a p → s ≤ p → p + 1 ≤ m → Marks h b s p (altered closing_row rows (place_of b n)) (marked_within m b s (Some p) (altered closing_row rows (place_of b n))))
          → Marks h b s n rows (marked_within m b s (cond c None (below_of b rows n)) (altered closing_row rows (place_of b n)))
      by true is rest =
          let same : s ≡ n = sym (eqb-true n s is) in
          subst (λ x. Marks h b s x rows (marked_within m b s None (altered closing_row rows (place_of b x)))) same
          (subst (λ xs. Marks h b s s rows xs) (sym (marked_none m b s (altered closing_row rows (place_of b s)))) (marks_end rows (are s it).1))
      by false is rest =
          let apart : n ≢ s = λ same. absurd (both_ways (n == s) is (eq-eqb n s same)) in
          let more : s < n = omega (arith, above, apart) in
          let below = (are n own).0 in
          let found = below.greatest s it more in
          let own_below = below.there found.0 found.1 in
          subst (λ o. Marks h b s n rows (marked_within m b s o (altered closing_row rows (place_of b n)))) (sym found.1)
          (marks_step rows (marked_within m b s (Some found.0) (altered closing_row rows (place_of b n))) n found.0 own more (are n own).1 own_below.1
          (λ u other less. let it_is = below.greatest u other less in greatest_one found.0 it_is.0 u (sym found.1 ∙ it_is.1) it_is.2)
          (rest found.0 own_below.0 found.2 (omega (arith, enough, own_below.1))))
