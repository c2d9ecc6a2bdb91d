-- The map that stands beside the order answers as the order does, after each change of both.
use Rattle.std.proofs.Common.{ℕ, ◌∙◌, ◌≡◌, ◌≢◌, None, Option, Some, ap, arith, cond, eqb, false, subst, sym, true}
use Rattle.deadline_core.specs.{Moments.Moments, eq_by_cmp, is_at, nat_cmp, nat_cmp_total, option_eq}
use Rattle.deadline_core.proofs.Words.{eqb-false, eqb-true, nat_tests}
use Rattle.deadline_core.proofs.{Listing.Sets, Pairs.sets_insert, Pairs.sets_remove}
use Rattle.std.specs.FinMap as map

-- a scope's own deadline, set once more
set_again : (m : Moments) (k v q : ℕ) → map.get m k ≡ Some v → map.get m q ≡ cond (eq_by_cmp nat_cmp q k) (Some v) (map.get m q)
set_again m k v q some = grind (arith, nat_tests)

pub insert_same : (m : Moments) (k v : ℕ) → map.get m k ≡ Some v → m ≡ map.insert m k v
insert_same m k v some = map.same_map nat_cmp_total map.nat_cmp-IsAntisymmetric _ _ (λ q. set_again m k v q some ∙ sym (map.get-insert nat_cmp_total m k v q))

pub same_moment : (o : Option ℕ) (d : ℕ) → option_eq eqb o (Some d) ≡ true → o ≡ Some d
same_moment None d e = grind arith
same_moment (Some b) d e = ap Some (eqb-true b d e)

pub other_moment : (o : Option ℕ) (b d : ℕ) → option_eq eqb o (Some d) ≡ false → o ≡ Some b → d ≢ b
other_moment o b d test some same = eqb-false b d (subst (λ (x : Option ℕ). option_eq eqb x (Some d) ≡ false) some test) (sym same)

module _ (f g : ℕ → Option ℕ) (m n : Moments) (s : ℕ) (same : (q : ℕ) → f q ≡ map.get m q) where
  -- both were given the deadline
  pub both_set : (d : ℕ) → n ≡ map.insert m s d → Sets f g s (Some d) → (q : ℕ) → g q ≡ map.get n q
  both_set d is sets q =
      sets q ∙ ap (cond (is_at (nat_cmp s) q) (Some d)) (same q) ∙ sym (sets_insert m s d q) ∙ ap (λ k. map.get k q) (sym is)

  -- both lost it
  pub both_removed : n ≡ map.remove m s → Sets f g s None → (q : ℕ) → g q ≡ map.get n q
  both_removed is sets q =
      sets q ∙ ap (cond (is_at (nat_cmp s) q) None) (same q) ∙ sym (sets_remove m s q) ∙ ap (λ k. map.get k q) (sym is)

-- a deadline that is given to a scope without one, and taken back
taken_back : (m : Moments) (s d q : ℕ) → map.get m s ≡ None → cond (eq_by_cmp nat_cmp q s) None (cond (eq_by_cmp nat_cmp q s) (Some d) (map.get m q)) ≡ map.get m q
taken_back m s d q none = grind (arith, nat_tests)

pub set_and_removed : (m mid n : Moments) (s d : ℕ) → map.get m s ≡ None → mid ≡ map.insert m s d → n ≡ map.remove mid s → n ≡ m
set_and_removed m mid n s d none given took =
    took ∙ ap (λ k. map.remove k s) given ∙ map.same_map nat_cmp_total map.nat_cmp-IsAntisymmetric _ _
    (λ q. map.get-remove nat_cmp_total (map.insert m s d) s q ∙ ap (cond (eq_by_cmp nat_cmp q s) None) (map.get-insert nat_cmp_total m s d q) ∙ taken_back m s d q none)

-- the deadline that was given is there
given : (m : Moments) (s d : ℕ) → cond (eq_by_cmp nat_cmp s s) (Some d) (map.get m s) ≡ Some d
given m s d = grind (arith, nat_tests)

pub given_back : (m mid : Moments) (s d : ℕ) → mid ≡ map.insert m s d → Some d ≡ map.get mid s
given_back m mid s d is = sym (ap (λ k. map.get k s) is ∙ map.get-insert nat_cmp_total m s d s ∙ given m s d)
