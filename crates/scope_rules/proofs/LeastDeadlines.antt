-- The lesser of two deadlines, scope by scope, is the least of all.
use Rattle.std.proofs.Common.{[], ℕ, ◌∙◌, ◌∷◌, ◌≡◌, ◌≤◌, Bool, List, None, Option, Some, arith, false, inl, inr, refl, subst, suc, sym, true, zero}
use Rattle.std.specs.Bool.{if◌then◌else◌}
use Rattle.scope_rules.specs.{Contains, History.History, IsInEffect, Past, at_moment, chain, counting_deadline, effective, first_cancel, is_cancelled, least_on, sooner}
use Rattle.scope_rules.proofs.Words.{cases_lt, same_Some}

-- a deadline of the scopes, which none of theirs is less than
record IsLeast (deadline : ℕ → Option ℕ) (ss : List ℕ) (d : ℕ) : Type 0 where
  scope : ℕ
  there : Contains ss scope
  is : deadline scope ≡ Some d
  least : (q e : ℕ) → Contains ss q → deadline q ≡ Some e → d ≤ e

-- what the least deadline of the scopes says of them
Least : (ℕ → Option ℕ) → List ℕ → Option ℕ → Type 0
Least deadline ss None = (q : ℕ) → Contains ss q → deadline q ≡ None
Least deadline ss (Some d) = IsLeast deadline ss d

module _ (deadline : ℕ → Option ℕ) (s : ℕ) (ss : List ℕ) where
  -- a member of the longer list is the first, or one of the others
  among : (P : ℕ → Type 0) → P s → ((q : ℕ) → Contains ss q → P q) → (q : ℕ) → Contains (s ∷ ss) q → P q
  among P here rest q (zero, within, is) = subst P is here
  among P here rest q (suc k, within, is) = rest q (k, omega (arith, within), is)

  first : Contains (s ∷ ss) s
  first = (0, omega arith, refl)

  further : (q : ℕ) → Contains ss q → Contains (s ∷ ss) q
  further q (k, within, is) = (suc k, omega (arith, within), is)

  more : (a b : Option ℕ) → deadline s ≡ a → Least deadline ss b → Least deadline (s ∷ ss) (sooner a b)
  unfolding Least
  more None None here rest = among (λ q. deadline q ≡ None) here rest
  more None (Some e) here rest = record {
    scope = rest.scope;
    there = further rest.scope rest.there;
    is = rest.is;
    least = λ q x among_them at. among (λ q. (x : ℕ) → deadline q ≡ Some x → e ≤ x) (λ y is. absurd (let both : None ≡ Some y = sym here ∙ is in cc)) (λ q in_rest y is. rest.least q y in_rest is) q among_them x at;
  }
  more (Some d) None here rest = record {
    scope = s;
    there = first;
    is = here;
    least = λ q x among_them at. among (λ q. (x : ℕ) → deadline q ≡ Some x → d ≤ x) (λ y is. let same : d ≡ y = same_Some d y (sym here ∙ is) in omega (arith, same)) (λ q in_rest y is. absurd (let both : None ≡ Some y = sym (rest q in_rest) ∙ is in cc)) q among_them x at;
  }
  more (Some d) (Some e) here rest = elim (cases_lt e d) [
    | inl less ↦ subst (IsLeast deadline (s ∷ ss)) (omega (arith, less)) (record {
      scope = rest.scope;
      there = further rest.scope rest.there;
      is = rest.is;
      least = λ q x among_them at. among (λ q. (x : ℕ) → deadline q ≡ Some x → e ≤ x) (λ y is. let same : d ≡ y = same_Some d y (sym here ∙ is) in omega (arith, same, less)) (λ q in_rest y is. rest.least q y in_rest is) q among_them x at;
    })
    | inr no_less ↦ subst (IsLeast deadline (s ∷ ss)) (omega (arith, no_less)) (record {
      scope = s;
      there = first;
      is = here;
      least = λ q x among_them at. among (λ q. (x : ℕ) → deadline q ≡ Some x → d ≤ x) (λ y is. let same : d ≡ y = same_Some d y (sym here ∙ is) in omega (arith, same)) (λ q in_rest y is. let later : e ≤ y = rest.least q y in_rest is in omega (arith, later, no_less)) q among_them x at;
    })
  ]

least_is : (deadline : ℕ → Option ℕ) (ss : List ℕ) → Least deadline ss (least_on deadline ss)
unfolding Least
least_is deadline [] = λ q there. absurd (omega (arith, there.1))
least_is deadline (s ∷ ss) = more deadline s ss (deadline s) (least_on deadline ss) refl (least_is deadline ss)

-- what is in effect by the least deadline, if the scope is not cancelled
in_effect : (h : History) (s : ℕ) (o : Option ℕ) → is_cancelled h s ≡ false → Least (counting_deadline h) (chain h s) o → IsInEffect h s (at_moment o)
unfolding Least
in_effect h s None live least = (live, least)
in_effect h s (Some d) live least = (live, record { scope = least.scope; on_chain = least.there; counts = least.is; least = least.least })

by_cancel : (h : History) (s : ℕ) (b : Bool) → is_cancelled h s ≡ b → Least (counting_deadline h) (chain h s) (least_on (counting_deadline h) (chain h s)) → IsInEffect h s (if b then Past else at_moment (least_on (counting_deadline h) (chain h s)))
by_cancel h s true is least = is
by_cancel h s false is least = in_effect h s (least_on (counting_deadline h) (chain h s)) is least

-- the deadline in effect is the least that counts
pub effective_least : (h : History) (s : ℕ) → IsInEffect h s (effective h s)
unfolding effective is_cancelled first_cancel chain
effective_least h s = by_cancel h s (is_cancelled h s) refl (least_is (counting_deadline h) (chain h s))
