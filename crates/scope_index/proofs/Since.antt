-- What each accepted event keeps holds of a legal history if it held before a place.
use Rattle.std.proofs.Common.{ℕ, ◌+◌, ◌-◌, ◌≡◌, ◌≤◌, ap, arith, length, subst, suc, sym, zero}
use Rattle.scope_index.specs.{Accepts, Event, History, Legal, Limits, before, followed}
use Rattle.scope_index.proofs.Words.{before_all, entry_at, legal_before, take_at}

module _ (L : Limits) (P : History → Type 0) (step : (g : History) (e : Event) → Legal L g → Accepts L g e → P g → P (followed g e)) where
  -- so many events later
  since_within : (h : History) (n k : ℕ) → n + k ≤ length h.events → Legal L h → P (before h n) → P (before h (n + k))
  unfolding Legal
  since_within h n zero within legal so = let same : n ≡ n + 0 = omega arith in subst (λ (i : ℕ). P (before h i)) same so
  since_within h n (suc k) within legal so =
      let here = entry_at h.events (n + k) (omega (arith, within)) in
      let next : before h ((n + k) + 1) ≡ followed (before h (n + k)) here.0 = ap (λ es. record { base = h.base; events = es }) (take_at h.events (n + k) here.0 here.1) in
      let place : (n + k) + 1 ≡ n + suc k = omega arith in
      let was = since_within h n k (omega (arith, within)) legal so in
      subst (λ (i : ℕ). P (before h i)) place (subst (λ (g : History). P g) (sym next) (step (before h (n + k)) here.0 (legal_before L h (n + k) legal) (legal (n + k) here.0 here.1) was))

  -- at the end of the history
  pub since : (h : History) (n : ℕ) → n ≤ length h.events → Legal L h → P (before h n) → P h
  since h n within legal so =
      let gap : n + (length h.events - n) ≡ length h.events = omega (arith, within) in
      let there = since_within h n (length h.events - n) (omega (arith, gap)) legal so in
      subst (λ (g : History). P g) (before_all h (n + (length h.events - n)) (omega (arith, gap))) there
