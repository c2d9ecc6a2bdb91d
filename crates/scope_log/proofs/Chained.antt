-- Chains along which two trees go alike.
use Rattle.std.proofs.Common.{ℕ, ◌+◌, ◌∙◌, ◌∷◌, ◌≡◌, Bool, List, None, Option, Some, ap, arith, cond, false, is_some, nat_le, option_map, refl, suc, true, zero}
use Rattle.scope_log.specs.{FirstCancel, Past, at_moment, chain_by, earliest_on, effective_by, first_cancel_by, least_on, nearer, onward, outwards, sooner}
use Rattle.scope_log.proofs.Words.{le-leb, leb-true, same_truth}

-- the first cancel, at a place that is moved
abbrev pub moved_cancel : ℕ → FirstCancel → FirstCancel
moved_cancel n c = record { place = n + c.place; cause = c.cause }

le_moved : (n a b : ℕ) → nat_le (n + a) (n + b) ≡ nat_le a b
le_moved n a b =
    same_truth (nat_le (n + a) (n + b)) (nat_le a b)
    (λ moved. le-leb a b (omega (arith, leb-true (n + a) (n + b) moved)))
    (λ was. le-leb (n + a) (n + b) (omega (arith, leb-true a b was)))

either_moved : (n : ℕ) (test : Bool) (x y : FirstCancel) → cond test (Some (moved_cancel n x)) (Some (moved_cancel n y)) ≡ option_map (moved_cancel n) (cond test (Some x) (Some y))
either_moved n true x y = refl
either_moved n false x y = refl

pub nearer_moved : (n : ℕ) (near far : Option FirstCancel) → nearer (option_map (moved_cancel n) near) (option_map (moved_cancel n) far) ≡ option_map (moved_cancel n) (nearer near far)
nearer_moved n None far = refl
nearer_moved n (Some x) None = refl
nearer_moved n (Some x) (Some y) = ap (λ b. cond b (Some (moved_cancel n x)) (Some (moved_cancel n y))) (le_moved n x.place y.place) ∙ either_moved n (nat_le x.place y.place) x y

pub still_some : {A B : Type 0} (f : A → B) (o : Option A) → is_some (option_map f o) ≡ is_some o
still_some f None = refl
still_some f (Some x) = refl

module _ (Here : ℕ → Type 0) (far outer : ℕ → Option ℕ) (same : (s : ℕ) → Here s → far s ≡ outer s) (onto : (s p : ℕ) → Here s → outer s ≡ Some p → Here p) where
  onward_alike : (f g : ℕ → List ℕ) (o : Option ℕ) → ((p : ℕ) → o ≡ Some p → f p ≡ g p) → onward o f ≡ onward o g
  onward_alike f g None alike = refl
  onward_alike f g (Some p) alike = alike p refl

  outwards_alike : (n s : ℕ) → Here s → outwards far n s ≡ outwards outer n s
  outwards_alike zero s here = refl
  outwards_alike (suc n) s here =
      ap (λ o. s ∷ onward o (outwards far n)) (same s here)
      ∙ ap (λ ss. s ∷ ss) (onward_alike (outwards far n) (outwards outer n) (outer s) (λ p is. outwards_alike n p (onto s p here is)))

  pub chain_alike : (s : ℕ) → Here s → chain_by far s ≡ chain_by outer s
  unfolding chain_by
  chain_alike s here = outwards_alike (suc s) s here

  module _ (n : ℕ) (later own : ℕ → Option FirstCancel) (cancels : (s : ℕ) → Here s → later s ≡ option_map (moved_cancel n) (own s)) where
    rest_moved : (m : ℕ) (o : Option ℕ) → ((p : ℕ) → o ≡ Some p → earliest_on later (outwards outer m p) ≡ option_map (moved_cancel n) (earliest_on own (outwards outer m p))) → earliest_on later (onward o (outwards outer m)) ≡ option_map (moved_cancel n) (earliest_on own (onward o (outwards outer m)))
    rest_moved m None moved = refl
    rest_moved m (Some p) moved = moved p refl

    earliest_moved : (m s : ℕ) → Here s → earliest_on later (outwards outer m s) ≡ option_map (moved_cancel n) (earliest_on own (outwards outer m s))
    earliest_moved zero s here = refl
    earliest_moved (suc m) s here =
        ap (λ o. nearer o (earliest_on later (onward (outer s) (outwards outer m)))) (cancels s here)
        ∙ (ap (nearer (option_map (moved_cancel n) (own s))) (rest_moved m (outer s) (λ p is. earliest_moved m p (onto s p here is)))
        ∙ nearer_moved n (own s) (earliest_on own (onward (outer s) (outwards outer m))))

    pub cancel_alike : (s : ℕ) → Here s → first_cancel_by far later s ≡ option_map (moved_cancel n) (first_cancel_by outer own s)
    unfolding first_cancel_by chain_by
    cancel_alike s here = ap (earliest_on later) (outwards_alike (suc s) s here) ∙ earliest_moved (suc s) s here

    module _ (moved deadline : ℕ → Option ℕ) (moments : (s : ℕ) → Here s → moved s ≡ deadline s) where
      rest_least : (m : ℕ) (o : Option ℕ) → ((p : ℕ) → o ≡ Some p → least_on moved (outwards outer m p) ≡ least_on deadline (outwards outer m p)) → least_on moved (onward o (outwards outer m)) ≡ least_on deadline (onward o (outwards outer m))
      rest_least m None alike = refl
      rest_least m (Some p) alike = alike p refl

      least_alike : (m s : ℕ) → Here s → least_on moved (outwards outer m s) ≡ least_on deadline (outwards outer m s)
      least_alike zero s here = refl
      least_alike (suc m) s here =
          ap (λ o. sooner o (least_on moved (onward (outer s) (outwards outer m)))) (moments s here)
          ∙ ap (sooner (deadline s)) (rest_least m (outer s) (λ p is. least_alike m p (onto s p here is)))

      pub effective_alike : (s : ℕ) → Here s → effective_by far later moved s ≡ effective_by outer own deadline s
      unfolding chain_by
      effective_alike s here =
          let first_cancel : is_some (first_cancel_by far later s) ≡ is_some (first_cancel_by outer own s) = ap is_some (cancel_alike s here) ∙ still_some (moved_cancel n) (first_cancel_by outer own s) in
          let least : least_on moved (chain_by far s) ≡ least_on deadline (chain_by outer s) = ap (least_on moved) (outwards_alike (suc s) s here) ∙ least_alike (suc s) s here in
          ap (λ t. cond t Past (at_moment (least_on moved (chain_by far s)))) first_cancel ∙ ap (λ o. cond (is_some (first_cancel_by outer own s)) Past (at_moment o)) least
