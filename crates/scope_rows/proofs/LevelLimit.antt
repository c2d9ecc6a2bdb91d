-- In a legal history no scope lies deeper than the limit of levels.
use Rattle.std.proofs.Common.{[], ℕ, ◌+◌, ◌<◌, ◌∙◌, ◌≡◌, ◌≤◌, None, Option, Some, ap, arith, inl, inr, length, refl, subst, suc, sym, zero}
use Rattle.scope_rows.specs.{Accepts, Event, History, LEVEL_LIMIT, Legal, Limits, Open, Opening, Origin, around, before, earliest, followed, level, next_level, opening, opening_of, option_and_then, option_map_or, parent}
use Rattle.scope_rows.specs.{row_check, surrounding}
use Rattle.scope_rows.proofs.Words.{IsOpened, along, and_then_some, before_last, checks_at, legal_before, legal_push, level_by_parent, ltb-false, not_refused, opened_before, opening_place, opening_split, parent_smaller}
use Rattle.scope_rows.proofs.Words.{parent_stays, surrounding_opened}

-- the parent of a scope was opened
parent_opened : (L : Limits) (h : History) (s p : ℕ) → Legal L h → parent h s ≡ Some p → IsOpened h p
unfolding parent
parent_opened L h s p legal is =
    let there = and_then_some (around h) (opening h s) p is in
    opened_before h there.0.place p (surrounding_opened L (before h there.0.place) there.0.actor p (legal_before L h there.0.place legal) there.2)

module _ (L : Limits) (h : History) (e : Event) (legal : Legal L h) (then : Legal L (followed h e)) where
  -- the level of an opened scope stays
  level_stays : (n s : ℕ) → s < n → IsOpened h s → level (followed h e) s ≡ level h s
  level_stays zero s less it = absurd (omega (arith, less))
  level_stays (suc n) s less it =
      level_by_parent L (followed h e) s then
      ∙ (ap (λ (o : Option ℕ). option_map_or (λ p. level (followed h e) p + 1) o 1) (parent_stays h e s it)
      ∙ (by (parent h s) (λ p is. let smaller = parent_smaller L h s p legal is in level_stays n p (omega (arith, less, smaller.1)) (parent_opened L h s p legal is)) ∙ sym (level_by_parent L h s legal)))
    where
      by : (o : Option ℕ) → ((p : ℕ) → o ≡ Some p → level (followed h e) p ≡ level h p) → option_map_or (λ p. level (followed h e) p + 1) o 1 ≡ option_map_or (λ p. level h p + 1) o 1
      by None same = refl
      by (Some p) same = ap (λ m. m + 1) (same p refl)

-- no opened scope lies deeper
abbrev AreWithin : History → Type 0
AreWithin h = (s : ℕ) → IsOpened h s → level h s ≤ LEVEL_LIMIT

within_start : (b : Origin) → AreWithin (record { base = b; events = [] })
unfolding opening earliest
within_start b s it = let none = it.is in absurd cc

-- an open lies within the limit
level_passed : (L : Limits) (h : History) (a : ℕ) (policy options : _) → Accepts L h (Open a policy options) → next_level h a ≤ LEVEL_LIMIT
unfolding row_check
level_passed L h a policy options ok = ltb-false LEVEL_LIMIT (next_level h a) (not_refused _ _ (checks_at _ 2 _ ok.passed refl))

passed_by : (L : Limits) (h : History) (e : Event) (o : Opening) → Accepts L h e → opening_of (length h.events) e ≡ Some o → next_level h o.actor ≤ LEVEL_LIMIT
passed_by L h (Open a policy options) o ok is =
    let same : a ≡ o.actor = ap (λ (x : Option Opening). option_map_or (λ (y : Opening). y.actor) x a) is in
    subst (λ n. next_level h n ≤ LEVEL_LIMIT) same (level_passed L h a policy options ok)
passed_by L h _ o ok is = absurd cc

-- around the scope that the event opened lies what lay around its owner
new_parent : (h : History) (e : Event) (s : ℕ) (o : Opening) → opening (followed h e) s ≡ Some o → opening_of (length h.events) e ≡ Some o → parent (followed h e) s ≡ surrounding h o.actor
unfolding parent
new_parent h e s o is new =
    ap (option_and_then (around (followed h e))) is
    ∙ ap (λ (g : History). surrounding g o.actor) (ap (before (followed h e)) (opening_place (length h.events) e o new) ∙ before_last h e)

module _ (L : Limits) (h : History) (e : Event) (legal : Legal L h) (ok : Accepts L h e) where
  -- the scope that the event opened lies at the next level of its owner
  new_level : (s : ℕ) (o : Opening) → opening (followed h e) s ≡ Some o → opening_of (length h.events) e ≡ Some o → level (followed h e) s ≡ next_level h o.actor
  unfolding next_level
  new_level s o is new =
      level_by_parent L (followed h e) s (legal_push L h e legal ok)
      ∙ (ap (λ (x : Option ℕ). option_map_or (λ p. level (followed h e) p + 1) x 1) (new_parent h e s o is new) ∙ by (surrounding h o.actor) refl)
    where
      by : (x : Option ℕ) → surrounding h o.actor ≡ x → option_map_or (λ p. level (followed h e) p + 1) x 1 ≡ option_map_or (λ p. level h p + 1) x 1
      by None found = refl
      by (Some p) found = ap (λ m. m + 1) (level_stays L h e legal (legal_push L h e legal ok) (p + 1) p (omega arith) (surrounding_opened L h o.actor p legal found))

  within_step : AreWithin h → AreWithin (followed h e)
  within_step so s it =
      elim (opening_split h e s it.opened it.is) [
        | inl old ↦
            let was : IsOpened h s = record { opened = it.opened; is = old } in
            subst (λ n. n ≤ LEVEL_LIMIT) (sym (level_stays L h e legal (legal_push L h e legal ok) (s + 1) s (omega arith) was)) (so s was)
        | inr new ↦ subst (λ n. n ≤ LEVEL_LIMIT) (sym (new_level s it.opened it.is new.1)) (passed_by L h e it.opened ok new.1)
      ]

-- in a legal history no scope lies deeper than the limit
pub level_within : (L : Limits) (h : History) (s : ℕ) → Legal L h → IsOpened h s → level h s ≤ LEVEL_LIMIT
level_within L h s legal it = along L AreWithin within_start (λ g e lawful ok so. within_step L g e lawful ok so) h legal s it

-- each lies at level 1 at least
pub level_counts : (L : Limits) (h : History) (s : ℕ) → Legal L h → 1 ≤ level h s
level_counts L h s legal = let is = level_by_parent L h s legal in by (parent h s) is
  where
    by : (o : Option ℕ) → level h s ≡ option_map_or (λ p. level h p + 1) o 1 → 1 ≤ level h s
    by None is = omega (arith, is)
    by (Some p) is = omega (arith, is)

-- what the owner had innermost at the opening lies one level above
pub level_below : (L : Limits) (h : History) (s p : ℕ) (o : Opening) → Legal L h → opening h s ≡ Some o → surrounding (before h o.place) o.actor ≡ Some p → level h s ≡ level h p + 1
unfolding parent
level_below L h s p o legal is found =
    level_by_parent L h s legal ∙ ap (λ (x : Option ℕ). option_map_or (λ q. level h q + 1) x 1) (ap (option_and_then (around h)) is ∙ found)
