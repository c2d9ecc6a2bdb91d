-- Where a scope became cancelled stands in the history.
use Rattle.std.specs.Prelude.{◌<◌, ◌≡◌}
use Rattle.run_picture.specs.{ℕ, Cause, FirstCancel, History, None, Opening, Option, Some, cancellation, cancelled_at, cause, first_cancel, length, max, opening, option_and_then, option_map}
use Rattle.run_picture.specs.{option_map_or}
use Rattle.run_picture.proofs.Lemmas.{ap, arith, cancel_within_history, opening_within, refl}

pub cancelled_within : (h : History) (s i : ℕ) (c : Cause) → cancellation h s ≡ Some (i, c) → i < length h.events
unfolding cause cancelled_at
cancelled_within h s i c is = by (opening h s) (first_cancel h s) refl refl is
  where
    by : (o : Option Opening) (x : Option FirstCancel) → opening h s ≡ o → first_cancel h s ≡ x →
        option_and_then {U = ℕ × Cause} (λ at. option_map (λ d. (at, d)) (option_map (λ d. d.cause) x)) (option_and_then (λ p. option_map (λ d. max p.place d.place) x) o) ≡ Some (i, c) → i < length h.events
    by None x opened cancel_is same = absurd cc
    by (Some o) None opened cancel_is same = absurd cc
    by (Some o) (Some x) opened cancel_is same =
        let at : max o.place x.place ≡ i = ap (λ (r : Option (ℕ × Cause)). option_map_or (λ d. d.0) r 0) same in
        omega (arith, at, opening_within h s o opened, cancel_within_history h s x cancel_is)
