-- A tree that numbers its scopes from 1, if others were numbered before them: chains, cancels and
-- deadlines are the same but for the numbers.
use Rattle.std.proofs.Common.{[], ℕ, ◌+◌, ◌∙◌, ◌∷◌, ◌≡◌, ◌≤◌, Bool, List, None, Option, Some, ap, arith, cond, false, is_some, map, nat_le, option_map, refl, suc, sym, true, zero}
use Rattle.scope_rules.specs.{FirstCancel, IsInward, Past, at_moment, chain_by, earliest_on, effective_by, first_cancel_by, least_on, nearer, onward, shifted}
use Rattle.scope_rules.proofs.ChainLaws.{chain_law}

either_shifted : (b : ℕ) (test : Bool) (x y : FirstCancel) → cond test (Some (shifted b x)) (Some (shifted b y)) ≡ option_map (shifted b) (cond test (Some x) (Some y))
either_shifted b true x y = refl
either_shifted b false x y = refl

nearer_shifted : (b : ℕ) (near far : Option FirstCancel) → nearer (option_map (shifted b) near) (option_map (shifted b) far) ≡ option_map (shifted b) (nearer near far)
nearer_shifted b None far = refl
nearer_shifted b (Some x) None = refl
nearer_shifted b (Some x) (Some y) = either_shifted b (nat_le x.place y.place) x y

earliest_shifted : (b : ℕ) (own later : ℕ → Option FirstCancel) (ss : List ℕ) → ((s : ℕ) → later (b + s) ≡ option_map (shifted b) (own s)) → earliest_on later (map (λ s. b + s) ss) ≡ option_map (shifted b) (earliest_on own ss)
earliest_shifted b own later [] same = refl
earliest_shifted b own later (s ∷ ss) same = rw (same s) (rw (earliest_shifted b own later ss same) (nearer_shifted b (own s) (earliest_on own ss)))

least_shifted : (b : ℕ) (deadline later : ℕ → Option ℕ) (ss : List ℕ) → ((s : ℕ) → later (b + s) ≡ deadline s) → least_on later (map (λ s. b + s) ss) ≡ least_on deadline ss
least_shifted b deadline later [] same = refl
least_shifted b deadline later (s ∷ ss) same = rw (same s) (rw (least_shifted b deadline later ss same) refl)

still_some : (b : ℕ) (o : Option FirstCancel) → is_some (option_map (shifted b) o) ≡ is_some o
still_some b None = refl
still_some b (Some c) = refl

module _ (b : ℕ) (outer far : ℕ → Option ℕ) (inward : IsInward outer) (far_inward : IsInward far) (same : (s : ℕ) → far (b + s) ≡ option_map (λ p. b + p) (outer s)) where
  onward_shifted : (o : Option ℕ) → ((p : ℕ) → o ≡ Some p → chain_by far (b + p) ≡ map (λ s. b + s) (chain_by outer p)) → onward (option_map (λ p. b + p) o) (chain_by far) ≡ map (λ s. b + s) (onward o (chain_by outer))
  onward_shifted None so = refl
  onward_shifted (Some p) so = so p refl

  chain_within : (n s : ℕ) → s ≤ n → chain_by far (b + s) ≡ map (λ p. b + p) (chain_by outer s)
  chain_within zero s within =
      chain_law far far_inward (b + s)
      ∙ (ap (λ o. (b + s) ∷ onward o (chain_by far)) (same s)
      ∙ (ap (λ ss. (b + s) ∷ ss) (onward_shifted (outer s) (λ p is. absurd (omega (arith, (inward s p is).1, within))))
      ∙ sym (ap (map (λ p. b + p)) (chain_law outer inward s))))
  chain_within (suc n) s within =
      chain_law far far_inward (b + s)
      ∙ (ap (λ o. (b + s) ∷ onward o (chain_by far)) (same s)
      ∙ (ap (λ ss. (b + s) ∷ ss) (onward_shifted (outer s) (λ p is. chain_within n p (omega (arith, (inward s p is).1, within))))
      ∙ sym (ap (map (λ p. b + p)) (chain_law outer inward s))))

  -- the chain is the same but for the numbers
  pub chain_shifted : (s : ℕ) → chain_by far (b + s) ≡ map (λ p. b + p) (chain_by outer s)
  chain_shifted s = chain_within s s (omega arith)

  -- and so is the first cancel
  pub cancel_shifted : (own later : ℕ → Option FirstCancel) (s : ℕ) → ((t : ℕ) → later (b + t) ≡ option_map (shifted b) (own t)) → first_cancel_by far later (b + s) ≡ option_map (shifted b) (first_cancel_by outer own s)
  unfolding first_cancel_by
  cancel_shifted own later s cancels = ap (earliest_on later) (chain_shifted s) ∙ earliest_shifted b own later (chain_by outer s) cancels

  -- the deadline in effect is the same
  pub effective_shifted : (own later : ℕ → Option FirstCancel) (deadline moved : ℕ → Option ℕ) (s : ℕ) → ((t : ℕ) → later (b + t) ≡ option_map (shifted b) (own t)) → ((t : ℕ) → moved (b + t) ≡ deadline t)
      → effective_by far later moved (b + s) ≡ effective_by outer own deadline s
  effective_shifted own later deadline moved s cancels moments =
      let first_cancel : is_some (first_cancel_by far later (b + s)) ≡ is_some (first_cancel_by outer own s) = ap is_some (cancel_shifted own later s cancels) ∙ still_some b (first_cancel_by outer own s) in
      let least : least_on moved (chain_by far (b + s)) ≡ least_on deadline (chain_by outer s) = ap (least_on moved) (chain_shifted s) ∙ least_shifted b deadline moved (chain_by outer s) moments in
      ap (λ t. cond t Past (at_moment (least_on moved (chain_by far (b + s))))) first_cancel ∙ ap (λ o. cond (is_some (first_cancel_by outer own s)) Past (at_moment o)) least
