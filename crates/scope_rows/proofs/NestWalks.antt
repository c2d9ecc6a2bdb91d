-- The walk down an actor's unclosed scopes, step by step.
use Rattle.std.proofs.Common.{ℕ, ◌+◌, ◌<◌, ◌∙◌, ◌≡◌, ◌≤◌, ◌⊎◌, None, Option, Some, ap, arith, inl, inr, refl, subst, sym}
use Rattle.scope_rows.specs.{AreRowsOf, History, LEVEL_LIMIT, Legal, Limits, RowTable, before, below_of, forked_in, innermost, level, next_unclosed, option_or, surrounding}
use Rattle.scope_rows.proofs.Words.{HasUnclosed, cases_lt, innermost_unclosed, unclosed_innermost}
use Rattle.scope_rows.proofs.{CloseLaws.are_below, EndLaws.below_is, FirstUnclosed.next_is, FirstUnclosed.next_none, LevelLimit.level_below, LevelLimit.level_counts, LevelLimit.level_within, Places.scope_at}

-- an unclosed scope of the actor is the one that was found last, or comes after it, or is still to come
abbrev IsMet : Option ℕ → Option ℕ → ℕ → Type 0
IsMet found next u = ((f : ℕ) × (found ≡ Some f) × (f ≤ u)) ⊎ ((p : ℕ) × (next ≡ Some p) × (u ≤ p))

-- how far the walk has come after so many turns, for one history
pub record IsWalked (h : History) (a s turns : ℕ) (found next : Option ℕ) : Type 0 where
  pub after : (f : ℕ) → found ≡ Some f → HasUnclosed h a f × (s < f)
  pub here : (p : ℕ) → next ≡ Some p → HasUnclosed h a p × (level h p + turns ≤ LEVEL_LIMIT)
  pub met : (u : ℕ) → HasUnclosed h a u → IsMet found next u

-- the same for each history of which the rows are kept
abbrev pub AreWalked : RowTable → ℕ → ℕ → ℕ → Option ℕ → Option ℕ → Type 0
AreWalked t a s turns found next = (L : Limits) (h : History) → Legal L h → AreRowsOf h t → IsWalked h a s turns found next

-- the walk begins at the innermost scope
pub walk_start : (t : RowTable) (a s : ℕ) (next : Option ℕ) → ((L : Limits) (h : History) → Legal L h → AreRowsOf h t → next ≡ innermost h a) → AreWalked t a s 0 None next
walk_start t a s next is L h legal are = record {
  after = λ f found. absurd cc;
  here = λ p at.
      let it = innermost_unclosed h a p (sym (is L h legal are) ∙ at) in
      let within = level_within L h p legal (record { opened = it.opened; is = it.is }) in
      (it, omega (arith, within));
  met = λ u it.
      let found = unclosed_innermost h a u it in
      inr (found.scope, is L h legal are ∙ found.is, found.least);
}

-- the scope below an unclosed one lies one level above it
level_falls : (L : Limits) (h : History) (t : RowTable) (a n p : ℕ) → Legal L h → AreRowsOf h t → HasUnclosed h a n → below_of t.scopes_before t.scopes n ≡ Some p → level h n ≡ level h p + 1
unfolding surrounding
level_falls L h t a n p legal are it below =
    let row = scope_at h t n are (record { opened = it.opened; is = it.is }) in
    let o = row.row.opening in
    let had : innermost (before h o.place) o.actor ≡ Some p = row.says.below ∙ (sym (below_is h t n row) ∙ below) in
    level_below L h n p o legal row.says.opening (ap (λ (x : Option ℕ). option_or x (forked_in (before h o.place) o.actor)) had)

-- a turn goes on below
pub walk_on : (t : RowTable) (a s turns n : ℕ) (found next : Option ℕ) → AreWalked t a s turns found (Some n) → s < n → next ≡ below_of t.scopes_before t.scopes n → AreWalked t a s (turns + 1) (Some n) next
walk_on t a s turns n found next walked more is L h legal are =
    let was = walked L h legal are in
    let own = (was.here n refl).0 in
    let below = (are_below L h t a legal are n own).0 in
    record {
      after = λ f at. let same : n ≡ f = cc in subst (λ m. HasUnclosed h a m × (s < m)) same (own, more);
      here = λ p at.
          let there = below.there p (sym is ∙ at) in
          let falls = level_falls L h t a n p legal are own (sym is ∙ at) in
          (there.0, omega (arith, (was.here n refl).1, falls));
      met = λ u it.
          elim (cases_lt u n) [
            | inl less ↦ let one = below.greatest u it less in inr (one.0, is ∙ one.1, one.2)
            | inr least ↦ inl (n, refl, least)
          ];
    }

-- ---- the end

-- what was found is next, where none that is to come stands after s
ended : (h : History) (a s turns : ℕ) (found next : Option ℕ) → IsWalked h a s turns found next → ((p : ℕ) → next ≡ Some p → p ≤ s) → found ≡ next_unclosed h a s
ended h a s turns None next was past =
    sym (next_none h a s (λ u it.
    elim (was.met u it) [ inl one ↦ absurd cc | inr one ↦ let least = past one.0 one.1 in omega (arith, one.2, least) ]))
ended h a s turns (Some f) next was past =
    let it = was.after f refl in
    sym (next_is h a s f it.0 it.1 (λ u own after.
    elim (was.met u own) [
      | inl one ↦ let same : f ≡ one.0 = cc in omega (arith, same, one.2)
      | inr one ↦ let least = past one.0 one.1 in absurd (omega (arith, one.2, least, after))
    ]))

-- nothing is left
pub walk_end : (t : RowTable) (a s turns : ℕ) (found next : Option ℕ) → next ≡ None → AreWalked t a s turns found next → (L : Limits) (h : History) → Legal L h → AreRowsOf h t → found ≡ next_unclosed h a s
walk_end t a s turns found next none walked L h legal are = ended h a s turns found next (walked L h legal are) (λ p at. absurd cc)

-- the walk has come past s
pub walk_past : (t : RowTable) (a s turns n : ℕ) (found next : Option ℕ) → next ≡ Some n → n ≤ s → AreWalked t a s turns found next → (L : Limits) (h : History) → Legal L h → AreRowsOf h t → found ≡ next_unclosed h a s
walk_past t a s turns n found next at past walked L h legal are =
    ended h a s turns found next (walked L h legal are) (λ p is. let same : n ≡ p = cc in omega (arith, same, past))

-- after a turn for each level nothing is left
pub walk_out : (t : RowTable) (a s : ℕ) (found next : Option ℕ) → AreWalked t a s LEVEL_LIMIT found next → (L : Limits) (h : History) → Legal L h → AreRowsOf h t → found ≡ next_unclosed h a s
walk_out t a s found next walked L h legal are =
    let was = walked L h legal are in
    ended h a s LEVEL_LIMIT found next was (λ p at.
    let it = (was.here p at).1 in
    let counts = level_counts L h p legal in
    absurd (omega (arith, it, counts)))
