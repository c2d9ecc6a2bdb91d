-- A walk from a scope inwards, over the scopes that its owner has not closed: it meets all of them, in the
-- order that is the reverse of that in which they can be closed.
use Rattle.std.proofs.Common.{[], ℕ, ◌&&◌, ◌+◌, ◌-◌, ◌<◌, ◌==◌, ◌∙◌, ◌∷◌, ◌≡◌, ◌≢◌, ◌≤◌, ◌⊎◌, Bool, List, None, Option, Some, ap, arith, cond, false, inl, inr, nat_lt, not, refl, subst, suc, sym, true, zero}
use Rattle.realm_core.specs.{EndClose, History, InEndOrder, Opening, closed, followed, inner, innermost, next_unclosed, opened_count, opening, option_and_then, scopes, unclosed_after, unclosed_of}
use Rattle.realm_core.proofs.Words.{HasUnclosed, and_parts, and_then_some, both_ways, cases_lt, closed_grows, earliest_first, eq-eqb, eqb-true, if_some, innermost_is, ltb-true, ne_eqb, next_is, not-true, opening_same, or_from}
use Rattle.realm_core.proofs.Words.{same_Some, scope_given, unclosed_earlier}
use Rattle.realm_core.proofs.EndChains.{closed_now}

-- ---- what `inner` finds

-- between the two the actor has closed all that it opened
abbrev pub IsGap : History → ℕ → ℕ → ℕ → Type 0
IsGap h a p q = (u : ℕ) → HasUnclosed h a u → p < u → u < q → ⊥

-- above it too
abbrev pub IsLast : History → ℕ → ℕ → Type 0
IsLast h a p = (u : ℕ) → HasUnclosed h a u → p < u → ⊥

-- the next scope of the actor's that is not closed
pub record IsNext (h : History) (a p q : ℕ) : Type 0 where
  pub unclosed : HasUnclosed h a q
  pub later : p < q
  pub gap : IsGap h a p q

-- the number of a scope, if the actor opened it and has not closed it
abbrev number : History → ℕ → ℕ → Option ℕ
number h a s = option_and_then (λ (o : Opening). cond ((o.actor == a) && not (closed h s)) (Some s) None) (opening h s)

found_unclosed : (h : History) (a s t : ℕ) → number h a s ≡ Some t → (s ≡ t) × HasUnclosed h a s
found_unclosed h a s t found =
    let entry = and_then_some (λ (o : Opening). cond ((o.actor == a) && not (closed h s)) (Some s) None) (opening h s) t found in
    let test = if_some ((entry.0.actor == a) && not (closed h s)) (Some s) t entry.2 in
    let parts = and_parts (entry.0.actor == a) (not (closed h s)) test.0 in
    (same_Some s t test.1, record { opened = entry.0; is = entry.1; by = eqb-true entry.0.actor a parts.0; unclosed = not-true (closed h s) parts.1 })

-- what is found is unclosed and later
found_later : (h : History) (a p q : ℕ) → next_unclosed h a p ≡ Some q → HasUnclosed h a q × (p < q)
unfolding next_unclosed
found_later h a p q found =
    let first = earliest_first (unclosed_after h a p) q (opened_count h) found in
    let test = if_some (nat_lt p (h.base.scopes + 1 + first.0)) (unclosed_of h a first.0) q first.2 in
    let it = found_unclosed h a (h.base.scopes + 1 + first.0) q test.1 in
    (subst (HasUnclosed h a) it.0 it.1, subst (λ m. p < m) it.0 (ltb-true p (h.base.scopes + 1 + first.0) test.0))

-- the least unclosed scope after p, up to so many
least_up_to : (h : History) (a p n : ℕ) → (IsGap h a p (p + 1 + n)) ⊎ ((q : ℕ) × IsNext h a p q)
least_up_to h a p zero = inl (λ u it more less. absurd (omega (arith, more, less)))
least_up_to h a p (suc n) = by (least_up_to h a p n) (number h a (p + 1 + n)) refl
  where
    by : (IsGap h a p (p + 1 + n)) ⊎ ((q : ℕ) × IsNext h a p q) → (o : Option ℕ) → number h a (p + 1 + n) ≡ o → (IsGap h a p (p + 1 + suc n)) ⊎ ((q : ℕ) × IsNext h a p q)
    by (inr sooner) o is = inr sooner
    by (inl gap) (Some t) is =
        let it = found_unclosed h a (p + 1 + n) t is in
        inr (p + 1 + n, record { unclosed = it.1; later = omega arith; gap = gap })
    by (inl gap) None is =
        inl (λ u it more less. elim (cases_lt u (p + 1 + n)) [
          | inl under ↦ gap u it more under
          | inr over ↦
              let same : u ≡ p + 1 + n = omega (arith, over, less) in
              let there : number h a u ≡ Some u = number_is h a u it in
              absurd (cc (ap (number h a) same, is, there))
        ])
      where
        number_is : (h : History) (a s : ℕ) → HasUnclosed h a s → number h a s ≡ Some s
        number_is h a s it = rw (it.is, it.unclosed, eq-eqb it.opened.actor a it.by) refl

next_by : (h : History) (a p : ℕ) (found : Option ℕ) → next_unclosed h a p ≡ found → (q : ℕ) → found ≡ Some q → IsNext h a p q
next_by h a p found is q so =
    let it = found_later h a p q (is ∙ so) in
    record {
      unclosed = it.0;
      later = it.1;
      gap = λ u there more less. elim (least_up_to h a p (u - p)) [
        | inl none ↦ none u there more (omega (arith, more))
        | inr least ↦
            let is_it = next_is h a p least.0 least.1.unclosed least.1.later (λ v that after. elim (cases_lt v least.0) [ inl under ↦ absurd (least.1.gap v that after under) | inr over ↦ over ]) in
            let same : Some least.0 ≡ Some q = sym is_it ∙ (is ∙ so) in
            let one : least.0 ≡ q = cc in
            elim (cases_lt u least.0) [ inl under ↦ least.1.gap u there more under | inr over ↦ absurd (omega (arith, one, less, over)) ]
      ];
    }

-- the next scope inside
pub inner_is : (h : History) (a p q : ℕ) (o : Opening) → opening h p ≡ Some o → o.actor ≡ a → inner h p ≡ Some q → IsNext h a p q
unfolding inner
inner_is h a p q o is by found =
    let at : next_unclosed h o.actor p ≡ Some q = rw is at found in
    next_by h a p (Some q) (subst (λ (n : ℕ). next_unclosed h n p ≡ Some q) by at) q refl

pub inner_none : (h : History) (a p : ℕ) (o : Opening) → opening h p ≡ Some o → o.actor ≡ a → inner h p ≡ None → IsLast h a p
unfolding inner
inner_none h a p o is by none u there more =
    let at : next_unclosed h o.actor p ≡ None = rw is at none in
    let here : next_unclosed h a p ≡ None = subst (λ (n : ℕ). next_unclosed h n p ≡ None) by at in
    elim (least_up_to h a p (u - p)) [
      | inl gap ↦ gap u there more (omega (arith, more))
      | inr least ↦
          let is_it = next_is h a p least.0 least.1.unclosed least.1.later (λ v that after. elim (cases_lt v least.0) [ inl under ↦ absurd (least.1.gap v that after under) | inr over ↦ over ]) in
          absurd (cc (is_it, here))
    ]

-- ---- the walk

-- what was walked from scope s on, the latest first, up to this scope: each is the next after the one
-- before it
abbrev pub IsWalked : History → ℕ → ℕ → List ℕ → ℕ → Type 0
IsWalked h a s [] top = s ≡ top
IsWalked h a s (q ∷ qs) top = (q ≡ top) × ((p : ℕ) × IsNext h a p q × IsWalked h a s qs p)

pub walk_on : (h : History) (a s p q : ℕ) (qs : List ℕ) → IsWalked h a s qs p → IsNext h a p q → IsWalked h a s (q ∷ qs) q
walk_on h a s p q qs walked next = (refl, (p, next, walked))

pub walk_rises : (h : History) (a s top : ℕ) (qs : List ℕ) → IsWalked h a s qs top → s ≤ top
walk_rises h a s top [] walked = omega (arith, walked)
walk_rises h a s top (q ∷ qs) walked =
    let rest = walk_rises h a s walked.1.0 qs walked.1.2 in
    omega (arith, rest, walked.0, walked.1.1.later)

pub top_unclosed : (h : History) (a s top : ℕ) (qs : List ℕ) → HasUnclosed h a s → IsWalked h a s qs top → HasUnclosed h a top
top_unclosed h a s top [] it walked = subst (HasUnclosed h a) walked it
top_unclosed h a s top (q ∷ qs) it walked = subst (HasUnclosed h a) walked.0 walked.1.1.unclosed

-- ---- it is the order of the ends

still_unclosed : (h : History) (a q u : ℕ) → q ≢ u → HasUnclosed h a u → HasUnclosed (followed h (EndClose a q)) a u
still_unclosed h a q u other it = record {
  opened = it.opened;
  is = opening_same h (EndClose a q) u refl ∙ it.is;
  by = it.by;
  unclosed = closed_grows h (EndClose a q) u ∙ or_from (closed h u) (q == u) it.unclosed (ne_eqb q u other);
}

was_unclosed : (h : History) (a q u : ℕ) → HasUnclosed (followed h (EndClose a q)) a u → HasUnclosed h a u
was_unclosed h a q u it = record {
  opened = it.opened;
  is = sym (opening_same h (EndClose a q) u refl) ∙ it.is;
  by = it.by;
  unclosed = unclosed_earlier h (EndClose a q) u it.unclosed;
}

walked_still : (h : History) (a s b top : ℕ) (qs : List ℕ) → top < b → IsWalked h a s qs top → IsWalked (followed h (EndClose a b)) a s qs top
walked_still h a s b top [] less walked = walked
walked_still h a s b top (q ∷ qs) less walked =
    let next = walked.1.1 in
    let here = walked.0 in (
      walked.0,
      (
        walked.1.0,
        record {
          unclosed = still_unclosed h a b q (λ same. absurd (omega (arith, same, here, less))) next.unclosed;
          later = next.later;
          gap = λ u it more under. next.gap u (was_unclosed h a b u it) more under;
        },
        walked_still h a s b walked.1.0 qs (omega (arith, next.later, here, less)) walked.1.2,
      ),
    )

top_innermost : (h : History) (a top : ℕ) → HasUnclosed h a top → IsLast h a top → innermost h a ≡ Some top
top_innermost h a top it last = innermost_is h a top it (λ t o is by more. closed_by (closed h t) refl (λ still. last t (record { opened = o; is = is; by = by; unclosed = still }) more))
  where
    closed_by : (b : Bool) → {c : Bool} → c ≡ b → (c ≡ false → ⊥) → c ≡ true
    closed_by true is not_false = is
    closed_by false is not_false = absurd (not_false is)

pub walked_order : (h : History) (a s top : ℕ) (qs : List ℕ) → HasUnclosed h a s → IsWalked h a s qs top → IsLast h a top → InEndOrder h a s qs
walked_order h a s top [] it walked last = (top_innermost h a s it (subst (IsLast h a) (sym walked) last), tt)
walked_order h a s top (q ∷ qs) it walked last =
    let here = walked.0 in
    let next = walked.1.1 in
    let p = walked.1.0 in
    let rise = walk_rises h a s p qs walked.1.2 in (
      top_innermost h a q next.unclosed (subst (IsLast h a) (sym here) last),
      walked_order (followed h (EndClose a q)) a s p qs
          (still_unclosed h a q s (λ same. absurd (omega (arith, same, next.later, rise))) it)
          (walked_still h a s q p qs next.later walked.1.2)
          (λ u there more. elim (cases_lt u q) [
            | inl under ↦ next.gap u (was_unclosed h a q u there) more under
            | inr over ↦ elim (cases_lt q u) [
              | inl above ↦ last u (was_unclosed h a q u there) (omega (arith, above, here))
              | inr below ↦ let same : q ≡ u = omega (arith, over, below) in both_ways (closed (followed h (EndClose a q)) u) there.unclosed (subst (λ (n : ℕ). closed (followed h (EndClose a q)) n ≡ true) same (closed_now h a q))
            ]
          ]),
    )

-- what lies inside comes later, and was opened
pub inner_later : (h : History) (p q : ℕ) → inner h p ≡ Some q → (p < q) × (q ≤ scopes h)
unfolding inner
inner_later h p q found =
    let entry = and_then_some (λ (o : Opening). next_unclosed h o.actor p) (opening h p) q found in
    let it = found_later h entry.0.actor p q entry.2 in
    (it.1, (scope_given h q it.0.opened it.0.is).1)
