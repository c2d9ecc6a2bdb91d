-- The least deadline of a chain, as a walk outwards finds it.
use Rattle.std.proofs.Common.{ℕ, ◌<◌, ◌∙◌, ◌≡◌, ◌≤◌, None, Option, Some, ap, arith, min, refl, sym}
use Rattle.cancel_tree.specs.{IsInward, chain_by, least_on, option_and_then, sooner}
use Rattle.cancel_tree.proofs.Words.{least_law, same_Some}
use Rattle.cancel_tree.proofs.ReachLaws.{place}

min_assoc : (a b c : ℕ) → min (min a b) c ≡ min a (min b c)
min_assoc a b c = omega arith

sooner_assoc : (a b c : Option ℕ) → sooner (sooner a b) c ≡ sooner a (sooner b c)
sooner_assoc None b c = refl
sooner_assoc (Some a) None c = refl
sooner_assoc (Some a) (Some b) None = refl
sooner_assoc (Some a) (Some b) (Some c) = ap Some (min_assoc a b c)

sooner_none : (a : Option ℕ) → sooner a None ≡ a
sooner_none None = refl
sooner_none (Some a) = refl

-- the least deadline from the scope on, if there is one
abbrev pub least_from : (ℕ → Option ℕ) → (ℕ → Option ℕ) → Option ℕ → Option ℕ
least_from outer deadline next = option_and_then (λ p. least_on deadline (chain_by outer p)) next

-- what was found and what is still to come make up the least of the chain
pub record IsLeastSoFar (outer deadline : ℕ → Option ℕ) (n s : ℕ) (least next : Option ℕ) : Type 0 where
  pub all : sooner least (least_from outer deadline next) ≡ least_on deadline (chain_by outer s)
  pub within : (p : ℕ) → next ≡ Some p → (1 ≤ p) × (p ≤ n)

pub least_start : (outer deadline : ℕ → Option ℕ) (n s : ℕ) → 1 ≤ s → s ≤ n → IsLeastSoFar outer deadline n s None (Some s)
least_start outer deadline n s h k = record { all = refl; within = λ p e. (let is = same_Some s p e in (omega arith, omega arith)) }

pub least_end : (outer deadline : ℕ → Option ℕ) (n s : ℕ) (least next : Option ℕ) → IsLeastSoFar outer deadline n s least next → next ≡ None → least ≡ least_on deadline (chain_by outer s)
least_end outer deadline n s least next h e = sym (sooner_none least) ∙ sym (ap (λ o. sooner least (least_from outer deadline o)) e) ∙ h.all

pub least_step : (outer deadline : ℕ → Option ℕ) (inward : IsInward outer) (n s p : ℕ) (least next d o more : Option ℕ) → IsLeastSoFar outer deadline n s least next → next ≡ Some p → d ≡ deadline p → o ≡ outer p → more ≡ sooner least d
    → IsLeastSoFar outer deadline n s more o
least_step outer deadline inward n s p least next d o more h at d_is o_is more_is =
    let w = h.within p at in
    record {
      all = (λ i. sooner ((more_is ∙ ap (sooner least) d_is) i) (least_from outer deadline (o_is i)))
          ∙ sooner_assoc least (deadline p) (least_from outer deadline (outer p))
          ∙ ap (sooner least) (sym (least_law outer inward deadline p) ∙ ap (least_from outer deadline) (sym at))
          ∙ h.all;
      within = λ q e. (let i = inward p q (sym o_is ∙ e) in (i.0, omega (arith, i.1, w.1)));
    }

outer_below : (p : ℕ) (o : Option ℕ) → 1 ≤ p → ((q : ℕ) → o ≡ Some q → q < p) → place o < p
outer_below p None h k = h
outer_below p (Some q) h k = k q refl

pub least_falls : (outer : ℕ → Option ℕ) (inward : IsInward outer) (p : ℕ) (next o : Option ℕ) → 1 ≤ p → next ≡ Some p → o ≡ outer p → place o < place next
least_falls outer inward p next o h at is =
    let here : place next ≡ p = ap place at in
    let l : place o < p = outer_below p o h (λ q e. (inward p q (sym is ∙ e)).1) in
    omega arith
