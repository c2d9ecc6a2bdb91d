-- The search for a scope of which a task waits or runs.
use Rattle.std.proofs.Common.{ℕ, ◌+◌, ◌-◌, ◌<◌, ◌≡◌, ◌≤◌, None, Option, Some, arith, false, inl, inr, refl, subst, suc, sym, true}
use Rattle.realm_core.specs.{FoundUnsettled, History, Opening, closed, inner, opening, scopes, settled}
use Rattle.realm_core.proofs.Words.{HasUnclosed, cases_lt}
use Rattle.realm_core.proofs.Walks.{inner_is, inner_later, inner_none}

-- what comes before the next one is settled, or all if there is no next one
abbrev IsMet : History → ℕ → ℕ → Option ℕ → Type 0
IsMet h a s (Some n) = HasUnclosed h a n × (s ≤ n) × ((t : ℕ) → HasUnclosed h a t → s ≤ t → t < n → settled h t ≡ true)
IsMet h a s None = (t : ℕ) → HasUnclosed h a t → s ≤ t → settled h t ≡ true

abbrev pub AreMet : History → ℕ → Option ℕ → Type 0
AreMet h s next = (o : Opening) → opening h s ≡ Some o → closed h s ≡ false → IsMet h o.actor s next

pub met_start : (h : History) (s : ℕ) → AreMet h s (Some s)
met_start h s o is unclosed =
    (record { opened = o; is = is; by = refl; unclosed = unclosed }, omega arith, λ t it more less. absurd (omega (arith, more, less)))

pub met_on : (h : History) (s n : ℕ) (next : Option ℕ) → AreMet h s (Some n) → settled h n ≡ true → next ≡ inner h n → AreMet h s next
met_on h s n None so done is o opened unclosed =
    let it = so o opened unclosed in
    λ t there more. elim (cases_lt t n) [
      | inl under ↦ it.2 t there more under
      | inr over ↦ elim (cases_lt n t) [
        | inl past ↦ absurd (inner_none h o.actor n it.0.opened it.0.is it.0.by (sym is) t there past)
        | inr below ↦ let same : n ≡ t = omega (arith, over, below) in subst (λ (m : ℕ). settled h m ≡ true) same done
      ]
    ]
met_on h s n (Some m) so done is o opened unclosed =
    let it = so o opened unclosed in
    let next = inner_is h o.actor n m it.0.opened it.0.is it.0.by (sym is) in (
      next.unclosed,
      omega (arith, it.1, next.later),
      λ t there more less. elim (cases_lt t n) [
        | inl under ↦ it.2 t there more under
        | inr over ↦ elim (cases_lt n t) [
          | inl past ↦ absurd (next.gap t there past less)
          | inr below ↦ let same : n ≡ t = omega (arith, over, below) in subst (λ (m : ℕ). settled h m ≡ true) same done
        ]
      ],
    )

pub met_end : (h : History) (s : ℕ) → AreMet h s None → FoundUnsettled h s None
met_end h s so o is unclosed t x at by more still = so o is unclosed t (record { opened = x; is = at; by = by; unclosed = still }) more

pub met_busy : (h : History) (s n : ℕ) → AreMet h s (Some n) → settled h n ≡ false → FoundUnsettled h s (Some n)
met_busy h s n so busy o is unclosed =
    let it = so o is unclosed in
    record {
      of = record { opened = it.0.opened; is = it.0.is; by = it.0.by; unclosed = it.0.unclosed };
      from = it.1;
      busy = busy;
    }

-- how many scopes are left, at the most
abbrev pub left : History → Option ℕ → ℕ
left h None = 0
left h (Some n) = suc (scopes h + 1 - n)

pub left_falls : (h : History) (n : ℕ) (next : Option ℕ) → next ≡ inner h n → left h next < left h (Some n)
left_falls h n None is = omega arith
left_falls h n (Some m) is = let it = inner_later h n m (sym is) in omega (arith, it.0, it.1)
