-- What was forked before a place, and how many scopes were opened there.
use Rattle.std.specs.Prelude.{◌≡◌, ◌≤◌}
use Rattle.run_picture.specs.{ℕ, Forking, History, None, Option, Some, before, forking, is_open, opened_count, option_map_or}
use Rattle.run_picture.proofs.Lemmas.{◌∙◌, ap, arith, count_by-take-le, forking_since, forking_within, length-take, refl, sym}

-- what was not forked at all, and what was forked at the place or behind it
pub forking_never : (h : History) (k n : ℕ) → forking h k ≡ None → forking (before h n) k ≡ None
forking_never h k n none = by (forking (before h n) k) refl
  where
    by : (f : Option Forking) → forking (before h n) k ≡ f → forking (before h n) k ≡ None
    by None e = e
    by (Some f) e = let there = forking_since h k n f e in absurd (differ (sym none ∙ there))
      where
        differ : None ≡ Some f → ⊥
        differ x = absurd cc

pub forking_late : (h : History) (k n : ℕ) (f : Forking) → forking h k ≡ Some f → n ≤ f.place → forking (before h n) k ≡ None
forking_late h k n f is late = by (forking (before h n) k) refl
  where
    by : (x : Option Forking) → forking (before h n) k ≡ x → forking (before h n) k ≡ None
    by None e = e
    by (Some x) e =
        let same : x.place ≡ f.place = placed (sym (forking_since h k n x e) ∙ is) in
        absurd (omega (arith, same, late, forking_within (before h n) k x e, length-take n h.events))
      where
        placed : Some x ≡ Some f → x.place ≡ f.place
        placed y = ap (λ (r : Option Forking). option_map_or (λ z. z.place) r 0) y

-- no more scopes were opened before a place than were opened
pub few_opened : (h : History) (n : ℕ) → opened_count (before h n) ≤ opened_count h
few_opened h n = count_by-take-le is_open h.events n
