-- A cancel comes to a scope from the one whose own it was, and no shield lies between.
use Rattle.std.specs.Prelude.{if◌then◌else◌, ◌≡◌, ◌⊎◌}
use Rattle.run_picture.specs.{ℕ, Bool, Cause, ComesTo, FirstCancel, History, None, Opening, Option, OwnCancel, Some, around, cancellation, cancelled_at, cause, chain_by, cond, earliest_on, false, first_cancel}
use Rattle.run_picture.specs.{first_cancel_by, inwards, nat_le, nearer, onward, opening, option_map, option_map_or, outer, outwards, own, own_cancel, suc, there, true, zero}
use Rattle.run_picture.proofs.Lemmas.{◌∙◌, and_then_some, ap, inl, inr, refl, subst, sym}

none_is : (x : FirstCancel) → None ≡ Some x → ⊥
none_is x same = absurd cc

from_own : (h : History) (s : ℕ) (c : FirstCancel) → own_cancel h s ≡ Some c → c.cause.scope ≡ s
from_own h s c is = by (own h s) is
  where
    by : (o : Option OwnCancel) → option_map (λ (w : OwnCancel). record { place = w.place; cause = record { scope = s; kind = w.kind } }) o ≡ Some c → c.cause.scope ≡ s
    by None is = absurd cc
    by (Some w) is = ap (λ (o : Option FirstCancel). option_map_or (λ (x : FirstCancel). x.cause.scope) o s) (sym is)

near_or_far : (near far : Option FirstCancel) (c : FirstCancel) → nearer near far ≡ Some c → (near ≡ Some c) ⊎ (far ≡ Some c)
near_or_far None far c is = inr is
near_or_far (Some near) None c is = inl is
near_or_far (Some near) (Some far) c is = by (nat_le near.place far.place) is
  where
    by : (b : Bool) → cond b (Some near) (Some far) ≡ Some c → (Some near ≡ Some c) ⊎ (Some far ≡ Some c)
    by true same = inl same
    by false same = inr same

outer_is : (h : History) (s q : ℕ) → outer h s ≡ Some q → (o : Opening) × (opening h s ≡ Some o) × (o.options.shield ≡ false) × (around h o ≡ Some q)
unfolding outer
outer_is h s q is =
    let it = and_then_some (λ (o : Opening). if o.options.shield then None else around h o) (opening h s) q is in
    by it.0 it.1 it.0.options.shield refl it.2
  where
    by : (o : Opening) → opening h s ≡ Some o → (b : Bool) → o.options.shield ≡ b → cond b None (around h o) ≡ Some q → (o : Opening) × (opening h s ≡ Some o) × (o.options.shield ≡ false) × (around h o ≡ Some q)
    by o opened true shield found = absurd cc
    by o opened false shield found = (o, opened, shield, found)

comes_along : (h : History) (n s : ℕ) (c : FirstCancel) → earliest_on (own_cancel h) (outwards (outer h) n s) ≡ Some c → ComesTo h c.cause.scope s
comes_along h zero s c is = absurd (none_is c is)
comes_along h (suc n) s c is =
    elim (near_or_far (own_cancel h s) (earliest_on (own_cancel h) (onward (outer h s) (outwards (outer h) n))) c is) [
      | inl near ↦ subst (ComesTo h c.cause.scope) (from_own h s c near) there
      | inr far ↦ by (λ q. comes_along h n q c) (outer h s) refl far
    ]
  where
    by : ((q : ℕ) → earliest_on (own_cancel h) (outwards (outer h) n q) ≡ Some c → ComesTo h c.cause.scope q) → (o : Option ℕ) → outer h s ≡ o → earliest_on (own_cancel h) (onward o (outwards (outer h) n)) ≡ Some c → ComesTo h c.cause.scope s
    by further None outside found = absurd (none_is c found)
    by further (Some q) outside found =
        let it = outer_is h s q outside in
        inwards it.1 it.2 it.3 (further q found)

comes_to : (h : History) (s : ℕ) (c : Cause) → cause h s ≡ Some c → ComesTo h c.scope s
unfolding cause first_cancel first_cancel_by chain_by
comes_to h s c is = by (first_cancel h s) refl is
  where
    by : (o : Option FirstCancel) → earliest_on (own_cancel h) (outwards (outer h) (suc s) s) ≡ o → option_map (λ x. x.cause) o ≡ Some c → ComesTo h c.scope s
    by None found same = absurd cc
    by (Some x) found same =
        let cause_is : x.cause ≡ c = cc in
        subst (λ (k : Cause). ComesTo h k.scope s) cause_is (comes_along h (suc s) s x found)

-- the cancel that reached a scope comes to it
pub cancel_comes : (h : History) (s i : ℕ) (c : Cause) → cancellation h s ≡ Some (i, c) → ComesTo h c.scope s
cancel_comes h s i c is =
    let it = and_then_some (λ (at : ℕ). option_map (λ (x : Cause). (at, x)) (cause h s)) (cancelled_at h s) (i, c) is in
    by it.0 (cause h s) refl it.2
  where
    by : (at : ℕ) (o : Option Cause) → cause h s ≡ o → option_map {U = ℕ × Cause} (λ (x : Cause). (at, x)) o ≡ Some (i, c) → ComesTo h c.scope s
    by at None caused same = absurd cc
    by at (Some x) caused same =
        let is_it : x ≡ c = ap (λ (o : Option (ℕ × Cause)). option_map_or (λ p. p.1) o x) same in
        comes_to h s c (caused ∙ ap Some is_it)
