-- The walk over a list of steps to its n-th fork.
use Rattle.std.proofs.Common.{[], ℕ, ◌+◌, ◌-◌, ◌<◌, ◌==◌, ◌∷◌, ◌≡◌, ◌≤◌, List, Some, arith, inl, inr, refl, true}
use Rattle.share_ledger.specs.{Grant, History, Legal, LegalFrom, Limits, Passes, RealmStep, advance, grant_of, granted, is_event, is_fork, tasks}
use Rattle.share_ledger.proofs.Words.{cases_Bool, eqb-false, eqb-true}
use Rattle.share_ledger.proofs.Histories.{legal_advance, tasks_advance}

-- the n-th fork of the steps is counted from 1
pub granted_number : (h : History) (n : ℕ) (xs : List RealmStep) (g : Grant) → granted h n xs ≡ Some g → 1 ≤ n
granted_number h n [] g at = absurd cc
granted_number h n (x ∷ xs) g at =
    elim (cases_Bool (is_event is_fork x)) [
      | inl forks ↦
          elim (cases_Bool (n == 1)) [ inl one ↦ omega (arith, eqb-true n 1 one) | inr more ↦ omega (arith, granted_number (advance h x) (n - 1) xs g (rw (forks, more) at at)) ]
      | inr other ↦ granted_number (advance h x) n xs g (rw other at at)
    ]

-- what holds if no step is left, at the fork of task k, and of a list where it holds of the rest, holds of
-- each list in which the n-th fork is that
module _ (L : Limits) (k : ℕ) (P : History → ℕ → List RealmStep → Type 0) (none : (h : History) (n : ℕ) → tasks h < k → P h n [])
    (here : (h : History) (x : RealmStep) (xs : List RealmStep) (n : ℕ) → Legal L h → Passes L h x → LegalFrom L (advance h x) xs → is_event is_fork x ≡ true → tasks h + 1 ≡ k → granted h n (x ∷ xs) ≡ grant_of h x → P h n (x ∷ xs))
    (on : (h : History) (x : RealmStep) (xs : List RealmStep) (n m : ℕ) → Legal L h → Passes L h x → tasks h < k → granted h n (x ∷ xs) ≡ granted (advance h x) m xs → P (advance h x) m xs → P h n (x ∷ xs)) where
  pub to_fork : (h : History) (n : ℕ) (xs : List RealmStep) → Legal L h → LegalFrom L h xs → tasks h + n ≡ k → 1 ≤ n → P h n xs
  to_fork h n [] legal lawful number some = none h n (omega (arith, number, some))
  to_fork h n (x ∷ xs) legal lawful number some =
      let lawful' = legal_advance L h x legal lawful.0 in
      let counted = tasks_advance h x in
      let before_it : tasks h < k = omega (arith, number, some) in
      elim (cases_Bool (is_event is_fork x)) [
        | inl forks ↦
            elim (cases_Bool (n == 1)) [
              | inl one ↦ here h x xs n legal lawful.0 lawful.1 forks (omega (arith, number, eqb-true n 1 one)) (rw (forks, one) refl)
              | inr more ↦
                  let rest = to_fork (advance h x) (n - 1) xs lawful' lawful.1 (omega (arith, number, some, rw forks at counted)) (omega (arith, some, eqb-false n 1 more)) in
                  on h x xs n (n - 1) legal lawful.0 before_it (rw (forks, more) refl) rest
            ]
        | inr other ↦ on h x xs n n legal lawful.0 before_it (rw other refl) (to_fork (advance h x) n xs lawful' lawful.1 (omega (arith, number, rw other at counted)) some)
      ]
