-- Each scope that is not closed lies inside an unclosed one, or is main's outermost.
use Rattle.std.proofs.Common.{[], ℕ, ◌+◌, ◌<◌, ◌==◌, ◌∙◌, ◌∷◌, ◌≡◌, ◌≤◌, ◌⊎◌, Bool, List, None, Option, Some, ap, arith, cond, false, inl, inr, option_map, refl, slice_get, suc, sym, true, zero}
use Rattle.tree_dump.specs.{Forking, History, Legal, Limits, Never, Opening, around, before, closed, filter, forked_count, forked_in}
use Rattle.tree_dump.specs.{forking, inner, innermost, is_running, is_task_of, level, next_unclosed, opening, option_and_then, option_map_or, option_or, outermost, parent}
use Rattle.tree_dump.specs.{stage, stage_of, surrounding, task_numbers, tasks_of}
use Rattle.tree_dump.proofs.Lemmas.{HasUnclosed, IsOpened, cases_lt, forked_after, forking_since, get_or-range_with_len, inner_closed, innermost_later, innermost_none, innermost_unclosed, legal_before}
use Rattle.tree_dump.proofs.Lemmas.{length-range_with_len, level_by_parent, next_is, opened_before, opened_first, opening_row, opening_since, outermost_is, parent_smaller, scope_given, slice_get-get_or}
use Rattle.tree_dump.proofs.Lemmas.{surrounding_opened, unclosed_before}

-- ---- the tasks of a scope

in_filter : (p : ℕ → Bool) (ks : List ℕ) (i k : ℕ) → slice_get ks i ≡ Some k → p k ≡ true → (j : ℕ) × (slice_get (filter p ks) j ≡ Some k)
in_filter p [] i k at holds = absurd cc
in_filter p (x ∷ xs) zero k at holds = let same : x ≡ k = cc in (0, rw same (ap (λ b. slice_get (cond b (k ∷ filter p xs) (filter p xs)) 0) holds))
in_filter p (x ∷ xs) (suc i) k at holds = by (p x) (in_filter p xs i k at holds)
  where
    by : (b : Bool) → (j : ℕ) × (slice_get (filter p xs) j ≡ Some k) → (j : ℕ) × (slice_get (cond b (x ∷ filter p xs) (filter p xs)) j ≡ Some k)
    by true found = (suc found.0, found.1)
    by false found = found

is_listed : (h : History) (k p : ℕ) (f : Forking) → forking h k ≡ Some f → f.scope ≡ p → (j : ℕ) × (slice_get (tasks_of h p) j ≡ Some k)
unfolding tasks_of is_task_of
is_listed h k p f is of =
    let there = forked_after h k f is in
    let many = length-range_with_len (h.base.tasks + 1) (forked_count h) in
    let at : slice_get (task_numbers h) there.0 ≡ Some k = slice_get-get_or (task_numbers h) there.0 k (omega (arith, there.1, many)) ∙ ap Some (get_or-range_with_len (h.base.tasks + 1) (forked_count h) there.0 k there.1 ∙ there.2) in
    in_filter (is_task_of h p) (task_numbers h) there.0 k at (ap (λ o. option_map_or (λ (g : Forking). g.scope == p) o false) is ∙ same_number f.scope p of)
  where
    same_number : (m n : ℕ) → m ≡ n → (m == n) ≡ true
    same_number m n same = grind (arith, same)

-- ---- what lies around an unclosed scope

not_then : (b c : Bool) → (b ≡ true → c ≡ true) → c ≡ false → b ≡ false
not_then true c then fails = let holds : c ≡ true = then refl in absurd cc
not_then false c then fails = refl

never : (b : Bool) → b ≡ true → b ≡ false → ⊥
never b holds fails = absurd cc

module _ (L : Limits) (h : History) (legal : Legal L h) where
  -- an unclosed scope of the actor was unclosed when a later one was opened
  stood : (a u s : ℕ) (o : Opening) → HasUnclosed h a u → opening h s ≡ Some o → u < s → HasUnclosed (before h o.place) a u
  stood a u s o it is less = record {
    opened = it.opened;
    is = opened_first L h u s it.opened o legal it.is is less;
    by = it.by;
    unclosed = unclosed_before h u o.place it.unclosed;
  }

  own : (s : ℕ) (o : Opening) → opening h s ≡ Some o → closed h s ≡ false → HasUnclosed h o.actor s
  own s o is live = record { opened = o; is = is; by = refl; unclosed = live }

  -- the scope that was opened with none of its owner's around is the owner's outermost one
  first_is : (s : ℕ) (o : Opening) → opening h s ≡ Some o → closed h s ≡ false → innermost (before h o.place) o.actor ≡ None → outermost h o.actor ≡ Some s
  first_is s o is live none =
      sym (outermost_is h o.actor) ∙ next_is h o.actor 0 s (own s o is live) (scope_given h s o is).0 (λ u it after. least u it (cases_lt u s))
    where
      least : (u : ℕ) → HasUnclosed h o.actor u → (u < s) ⊎ (s ≤ u) → s ≤ u
      least u it (inl less) = let then = stood o.actor u s o it is less in absurd (never (closed (before h o.place) u) (innermost_none (before h o.place) o.actor u then.opened none then.is then.by) then.unclosed)
      least u it (inr more) = more

  -- the scope that was opened inside one of its owner's is what lies inside that
  inner_is : (s p : ℕ) (o : Opening) → opening h s ≡ Some o → closed h s ≡ false → innermost (before h o.place) o.actor ≡ Some p → p < s → inner h p ≡ Some s
  unfolding inner
  inner_is s p o is live at less =
      let it = innermost_unclosed (before h o.place) o.actor p at in
      let there = opening_since h p o.place it.opened it.is in
      ap (option_and_then (λ (x : Opening). next_unclosed h x.actor p)) there
      ∙ (ap (λ a. next_unclosed h a p) it.by ∙ next_is h o.actor p s (own s o is live) less (λ u found after. least u found after (cases_lt u s)))
    where
      least : (u : ℕ) → HasUnclosed h o.actor u → p < u → (u < s) ⊎ (s ≤ u) → s ≤ u
      least u it after (inl before_it) = let then = stood o.actor u s o it is before_it in absurd (never (closed (before h o.place) u) (innermost_later (before h o.place) o.actor p u then.opened at then.is then.by after) then.unclosed)
      least u it after (inr more) = more

  parent_there : (s p : ℕ) → parent h s ≡ Some p → (o : Opening) × (opening h s ≡ Some o) → IsOpened h p
  unfolding parent
  parent_there s p found at =
      opened_before h at.0.place p (surrounding_opened L (before h at.0.place) at.0.actor p (legal_before L h at.0.place legal) (ap (option_and_then (around h)) (sym at.1) ∙ found))

  unforked : (a i : ℕ) → forked_in (before h i) a ≡ None → is_running (stage (before h i) a) ≡ true → ⊥
  unfolding stage
  unforked a i none runs = by (forking (before h i) a) refl none
    where
      by : (f : Option Forking) → forking (before h i) a ≡ f → option_map (λ (g : Forking). g.scope) f ≡ None → ⊥
      by None is none = let idle : is_running (stage (before h i) a) ≡ false = ap (λ o. is_running (option_map_or (stage_of (before h i) a) o Never)) is in absurd (never (is_running (stage (before h i) a)) runs idle)
      by (Some f) is none = absurd cc

  either_none : (o p : Option ℕ) → option_or o p ≡ None → (o ≡ None) × (p ≡ None)
  either_none None p none = (refl, none)
  either_none (Some x) p none = absurd cc

  -- without a parent it is main's outermost one
  pub root_is : (s : ℕ) (o : Opening) → opening h s ≡ Some o → closed h s ≡ false → parent h s ≡ None → outermost h 0 ≡ Some s
  unfolding parent surrounding
  root_is s o is live alone =
      let nothing : option_or (innermost (before h o.place) o.actor) (forked_in (before h o.place) o.actor) ≡ None = ap (option_and_then (around h)) (sym is) ∙ alone in
      let none = either_none (innermost (before h o.place) o.actor) (forked_in (before h o.place) o.actor) nothing in
      let main : o.actor ≡ 0 = elim (opening_row L h s o legal is) [
        | inl main ↦ main
        | inr runs ↦ absurd (unforked o.actor o.place none.1 runs)
      ] in
      ap (outermost h) (sym main) ∙ first_is s o is live none.0

  forked_there : (a i p : ℕ) → forked_in (before h i) a ≡ Some p → (f : Forking) × (forking h a ≡ Some f) × (f.scope ≡ p)
  forked_there a i p found = by (forking (before h i) a) refl found
    where
      by : (f : Option Forking) → forking (before h i) a ≡ f → option_map (λ (g : Forking). g.scope) f ≡ Some p → (f : Forking) × (forking h a ≡ Some f) × (f.scope ≡ p)
      by None is found = absurd cc
      by (Some f) is found = let same : f.scope ≡ p = cc in (f, forking_since h a i f is, same)

  -- it lies inside its parent, or inside a task of it
  pub child_of : (s p : ℕ) (o : Opening) → opening h s ≡ Some o → closed h s ≡ false → parent h s ≡ Some p → (inner h p ≡ Some s) ⊎ ((index k : ℕ) × (slice_get (tasks_of h p) index ≡ Some k) × (outermost h k ≡ Some s))
  unfolding parent surrounding
  child_of s p o is live inside = by (innermost (before h o.place) o.actor) refl (ap (option_and_then (around h)) (sym is) ∙ inside)
    where
      by : (x : Option ℕ) → innermost (before h o.place) o.actor ≡ x → option_or x (forked_in (before h o.place) o.actor) ≡ Some p → (inner h p ≡ Some s) ⊎ ((index k : ℕ) × (slice_get (tasks_of h p) index ≡ Some k) × (outermost h k ≡ Some s))
      by (Some t) at found = let parent_is : t ≡ p = cc in inl (inner_is s p o is live (at ∙ ap Some parent_is) (parent_smaller L h s p legal inside).1)
      by None at found =
          let f = forked_there o.actor o.place p found in
          let listed = is_listed h o.actor p f.0 f.1 f.2 in
          inr (listed.0, o.actor, listed.1, first_is s o is live at)

  -- its parent is not closed either, and lies a level higher
  pub parent_lives : (s p : ℕ) (o : Opening) → opening h s ≡ Some o → closed h s ≡ false → parent h s ≡ Some p → (q : Opening) × (opening h p ≡ Some q) × (closed h p ≡ false) × (level h s ≡ level h p + 1)
  parent_lives s p o is live inside =
      let it = parent_there s p inside (o, is) in
      (it.opened, it.is, not_then (closed h p) (closed h s) (inner_closed L h s p legal inside) live, level_by_parent L h s legal ∙ ap (λ x. option_map_or (λ q. level h q + 1) x 1) inside)
