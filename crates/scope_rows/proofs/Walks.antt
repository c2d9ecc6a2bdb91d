-- What the walk down from an actor's innermost scope meets: each unclosed scope of the actor, from the
-- latest down.
use Rattle.std.proofs.Common.{ℕ, ◌<◌, ◌≡◌, ◌≤◌, Option, Some, arith, false}
use Rattle.scope_rows.specs.{History, Legal, Limits, Opening, before, closed, innermost, opening}
use Rattle.scope_rows.proofs.Words.{HasUnclosed, innermost_unclosed, opened_after, opened_first, opening_later, opening_number, unclosed_around, unclosed_before, unclosed_innermost}

-- o is the greatest unclosed scope of the actor below t, or none if there is none
pub record IsGreatestBelow (h : History) (a t : ℕ) (o : Option ℕ) : Type 0 where
  pub there : (p : ℕ) → o ≡ Some p → HasUnclosed h a p × (p < t)
  pub greatest : (u : ℕ) → HasUnclosed h a u → u < t → (p : ℕ) × (o ≡ Some p) × (u ≤ p)

-- what an unclosed scope's owner had innermost at the opening is unclosed still, and has a smaller number
below_unclosed : (L : Limits) (h : History) (t p : ℕ) (o : Opening) → Legal L h → opening h t ≡ Some o → closed h t ≡ false → innermost (before h o.place) o.actor ≡ Some p → HasUnclosed h o.actor p × (p < t)
below_unclosed L h t p o legal is unclosed found =
    let it = innermost_unclosed (before h o.place) o.actor p found in
    let number = opened_after (before h o.place) p it.opened it.is in (
      record { opened = it.opened; is = opening_later h o.place p it.opened it.is; by = it.by; unclosed = unclosed_around L h t p o legal is unclosed it },
      omega (arith, number.1, number.2, opening_number h t o is),
    )

-- an unclosed scope with a smaller number was unclosed then
was_unclosed : (L : Limits) (h : History) (t u : ℕ) (o : Opening) → Legal L h → opening h t ≡ Some o → HasUnclosed h o.actor u → u < t → HasUnclosed (before h o.place) o.actor u
was_unclosed L h t u o legal is it less = record {
  opened = it.opened;
  is = opened_first L h u t it.opened o legal it.is is less;
  by = it.by;
  unclosed = unclosed_before h u o.place it.unclosed;
}

-- in a legal history the greatest unclosed scope of an actor below an unclosed one is what the actor had
-- innermost when it opened that
pub greatest_below : (L : Limits) (h : History) (t : ℕ) (o : Opening) → Legal L h → opening h t ≡ Some o → closed h t ≡ false → IsGreatestBelow h o.actor t (innermost (before h o.place) o.actor)
greatest_below L h t o legal is unclosed = record {
  there = λ p found. below_unclosed L h t p o legal is unclosed found;
  greatest = λ u it less.
      let found = unclosed_innermost (before h o.place) o.actor u (was_unclosed L h t u o legal is it less) in
      (found.scope, found.is, found.least);
}
