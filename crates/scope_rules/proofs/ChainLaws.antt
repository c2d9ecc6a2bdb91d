-- The laws of chains whose outer scopes have smaller numbers: what stands at a scope, by what stands at the scope outside it.
use Rattle.std.proofs.Common.{ℕ, ◌<◌, ◌∙◌, ◌∷◌, ◌≡◌, ◌≤◌, None, Option, Some, ap, arith, length, refl, suc, sym, zero}
use Rattle.scope_rules.specs.{FirstCancel, IsInward, chain_by, earliest_on, first_cancel_by, least_on, nearer, onward, option_and_then, outwards, sooner}

below : (P : ℕ → Type 0) → ((t : ℕ) → ((p : ℕ) → p < t → P p) → P t) → (n t : ℕ) → t < n → P t
below P step zero t h = absurd (omega arith)
below P step (suc n) t h = step t (λ p lt. below P step n p (omega arith))

module _ (outer : ℕ → Option ℕ) (inward : IsInward outer) where
  -- what goes on from each outer scope to the scope inside it holds of all
  pub along : (P : ℕ → Type 0) → ((t : ℕ) → 1 ≤ t → ((p : ℕ) → outer t ≡ Some p → P p) → P t) → (t : ℕ) → 1 ≤ t → P t
  along P step t h =
      let Q : ℕ → Type 0 = λ u. 1 ≤ u → P u in
      below Q (λ u ih k. step u k (λ p e. let i = inward u p e in ih p i.1 i.0)) (suc t) t (omega arith) h

  -- steps beyond the number of the scope add nothing
  outwards_steps : (n m s : ℕ) → s < n → s < m → outwards outer n s ≡ outwards outer m s
  outwards_steps zero m s k l = absurd (omega arith)
  outwards_steps (suc n) zero s k l = absurd (omega arith)
  outwards_steps (suc n) (suc m) s k l =
      ap (λ ss. s ∷ ss) (elim (outer s) as (λ o. outer s ≡ o → onward o (outwards outer n) ≡ onward o (outwards outer m)) [
        | None ↦ λ e. refl
        | Some p ↦ λ e. let i = inward s p e in outwards_steps n m p (omega (arith, i.1)) (omega (arith, i.1))
      ] refl)

  pub chain_law : (s : ℕ) → chain_by outer s ≡ s ∷ onward (outer s) (chain_by outer)
  unfolding chain_by
  chain_law s =
      ap (λ ss. s ∷ ss) (elim (outer s) as (λ o. outer s ≡ o → onward o (outwards outer s) ≡ onward o (chain_by outer)) [
        | None ↦ λ e. refl
        | Some p ↦ λ e. let i = inward s p e in outwards_steps s (suc p) p (omega (arith, i.1)) (omega arith)
      ] refl)

  pub cancel_law : (own : ℕ → Option FirstCancel) (s : ℕ) → first_cancel_by outer own s ≡ nearer (own s) (option_and_then (first_cancel_by outer own) (outer s))
  unfolding first_cancel_by
  cancel_law own s =
      ap (earliest_on own) (chain_law s)
      ∙ ap (nearer (own s)) (elim (outer s) as (λ o. earliest_on own (onward o (chain_by outer)) ≡ option_and_then (first_cancel_by outer own) o) [ None ↦ refl | Some p ↦ refl ])

  pub level_law : (s : ℕ) → length (chain_by outer s) ≡ suc (length (onward (outer s) (chain_by outer)))
  level_law s = ap length (chain_law s)

  pub least_law : (deadline : ℕ → Option ℕ) (s : ℕ) → least_on deadline (chain_by outer s) ≡ sooner (deadline s) (option_and_then (λ p. least_on deadline (chain_by outer p)) (outer s))
  least_law deadline s =
      ap (least_on deadline) (chain_law s)
      ∙ ap (sooner (deadline s)) (elim (outer s) as (λ o. least_on deadline (onward o (chain_by outer)) ≡ option_and_then (λ p. least_on deadline (chain_by outer p)) o) [ None ↦ refl | Some p ↦ refl ])

-- ---- what stays the same up to a number, if a scope and what is outside it stay the same

module _ (outer new : ℕ → Option ℕ) (inward : IsInward outer) (n : ℕ) (same : (t : ℕ) → t ≤ n → new t ≡ outer t) (inward_new : IsInward new) where
  pub cancel_kept : (own own_new : ℕ → Option FirstCancel) → ((t : ℕ) → t ≤ n → own_new t ≡ own t) → (t : ℕ) → 1 ≤ t → t ≤ n → first_cancel_by new own_new t ≡ first_cancel_by outer own t
  cancel_kept own own_new same_own t h k =
      along outer inward (λ u. u ≤ n → first_cancel_by new own_new u ≡ first_cancel_by outer own u)
      (λ u h ih k. cancel_law new inward_new own_new u
      ∙ ap (λ o. nearer (own_new u) (option_and_then (first_cancel_by new own_new) o)) (same u k)
      ∙ ap (λ x. nearer x (option_and_then (first_cancel_by new own_new) (outer u))) (same_own u k)
      ∙ ap (nearer (own u)) (elim (outer u) as (λ o. outer u ≡ o → option_and_then (first_cancel_by new own_new) o ≡ option_and_then (first_cancel_by outer own) o) [
        | None ↦ λ e. refl
        | Some p ↦ λ e. ih p e (omega (arith, (inward u p e).1))
      ] refl)
      ∙ sym (cancel_law outer inward own u))
      t h k

  pub chain_kept : (t : ℕ) → 1 ≤ t → t ≤ n → chain_by new t ≡ chain_by outer t
  chain_kept t h k =
      along outer inward (λ u. u ≤ n → chain_by new u ≡ chain_by outer u)
      (λ u h ih k. chain_law new inward_new u
      ∙ ap (λ o. u ∷ onward o (chain_by new)) (same u k)
      ∙ ap (λ ss. u ∷ ss) (elim (outer u) as (λ o. outer u ≡ o → onward o (chain_by new) ≡ onward o (chain_by outer)) [
        | None ↦ λ e. refl
        | Some p ↦ λ e. ih p e (omega (arith, (inward u p e).1))
      ] refl)
      ∙ sym (chain_law outer inward u))
      t h k

-- ---- where nothing lies farther out

pub nearer_none : (near : Option FirstCancel) → nearer near None ≡ near
nearer_none None = refl
nearer_none (Some near) = refl

pub sooner_none : (one : Option ℕ) → sooner one None ≡ one
sooner_none None = refl
sooner_none (Some one) = refl
