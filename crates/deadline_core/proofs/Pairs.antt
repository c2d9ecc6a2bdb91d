-- A list of deadlines with their scopes, of which no two have one scope, lists the map that it stands for.
use Rattle.std.proofs.Common.{[], ℕ, ◌&&◌, ◌||◌, ◌∙◌, ◌∷◌, ◌≡◌, ◌≢◌, Bool, List, None, Option, Some, ap, arith, cond, eqb, false, map, refl, subst, sym, true}
use Rattle.deadline_core.specs.{Moments.Moments, eq_by_cmp, eq_by_cmp_equiv, is_at, is_eq, is_moment, moments_in, nat_cmp, nat_cmp_total}
use Rattle.deadline_core.proofs.Words.{eq-eqb, false≢true, nat_tests, or_left, or_right, same_Some}
use Rattle.deadline_core.proofs.{Due.has, First.moment_found, Listing.Lists, Listing.Puts, Listing.Sets, Listing.at_pair, Listing.lists_again, Listing.lists_first, Listing.lists_without}
use Rattle.std.specs.FinMap as fin

-- no scope is listed twice
abbrev pub OneOfEach : (ℕ → ℕ → Bool) → Type 0
OneOfEach listed = (d e s : ℕ) → listed d s ≡ true → listed e s ≡ true → d ≡ e

pub one_of_lists : (listed : ℕ → ℕ → Bool) (f : ℕ → Option ℕ) → Lists listed f → OneOfEach listed
one_of_lists listed f lists d e s first second =
    same_Some d e (sym (moment_found (f s) d (sym (lists d s) ∙ first)) ∙ moment_found (f s) e (sym (lists e s) ∙ second))

step : (d s e t : ℕ) (later : Bool) (o : Option ℕ) → later ≡ is_moment o e → (s ≡ t → later ≡ true → d ≡ e) → ((eqb e d && eqb t s) || later) ≡ is_moment (cond (eqb t s) (Some d) o) e
step d s e t later o is one = grind (arith, nat_tests)

at_eq : (t s : ℕ) → is_eq (nat_cmp t s) ≡ eqb t s
at_eq t s = grind (arith, nat_tests)

-- a pair of the list is one of a longer list
later : (k : ℕ × ℕ) (ks : List (ℕ × ℕ)) (e t : ℕ) → has ks e t ≡ true → has (k ∷ ks) e t ≡ true
later k ks e t there = or_right _ _ there

-- and so is the first
first_has : (d s : ℕ) (ks : List (ℕ × ℕ)) → has ((d, s) ∷ ks) d s ≡ true
first_has d s ks = let test = at_pair d s d s in let same : (eqb d d && eqb s s) ≡ true = grind (arith, nat_tests) in or_left _ _ (test ∙ same)

lists_found : (ks : List (ℕ × ℕ)) → OneOfEach (has ks) → Lists (has ks) (λ t. fin.find nat_cmp t (map (λ p. (p.1, p.0)) ks))
lists_found [] one e t = refl
lists_found ((d, s) ∷ ks) one e t =
    let rest : OneOfEach (has ks) = λ a b u first second. one a b u (later (d, s) ks a u first) (later (d, s) ks b u second) in
    let here : s ≡ t → has ks e t ≡ true → d ≡ e = λ same there. one d e s (first_has d s ks) (later (d, s) ks e s (subst (λ u. has ks e u ≡ true) (sym same) there)) in
    ap (λ b. b || has ks e t) (at_pair e t d s)
    ∙ step d s e t (has ks e t) _ (lists_found ks rest e t) here
    ∙ ap (λ b. is_moment (cond b (Some d) (fin.find nat_cmp t (map (λ p. (p.1, p.0)) ks))) e) (sym (at_eq t s))

pub lists_pairs : (ks : List (ℕ × ℕ)) → OneOfEach (has ks) → Lists (has ks) (fin.get (moments_in ks))
lists_pairs ks one e t =
    lists_found ks one e t ∙ ap (λ o. is_moment o e) (sym (fin.get-from_entries nat_cmp_total (map (λ p. (p.1, p.0)) ks) t))

-- what is listed of one map, and of another, is one map
same_moments : (x y : Option ℕ) → ((e : ℕ) → is_moment x e ≡ is_moment y e) → x ≡ y
same_moments None None same = refl
same_moments None (Some b) same = absurd (false≢true (same b ∙ eq-eqb b b refl))
same_moments (Some a) y same = sym (moment_found y a (sym (same a) ∙ eq-eqb a a refl))

pub pairs_stand_for : (ks : List (ℕ × ℕ)) (m : Moments) → Lists (has ks) (fin.get m) → moments_in ks ≡ m
pairs_stand_for ks m lists =
    let own = lists_pairs ks (one_of_lists (has ks) (fin.get m) lists) in
    fin.same_map nat_cmp_total fin.nat_cmp-IsAntisymmetric _ _ (λ q. same_moments _ _ (λ e. sym (own e q) ∙ lists e q))

-- ---- what a change of the list lists

pub same_test : {X : Type 0} (k q : ℕ) (x y : X) → cond (eq_by_cmp nat_cmp q k) x y ≡ cond (is_at (nat_cmp k) q) x y
same_test k q x y = ap (λ b. cond b x y) ((eq_by_cmp_equiv nat_cmp_total).symm q k)

pub sets_insert : (m : Moments) (s d : ℕ) → Sets (fin.get m) (fin.get (fin.insert m s d)) s (Some d)
sets_insert m s d t = fin.get-insert nat_cmp_total m s d t ∙ same_test s t _ _

pub sets_remove : (m : Moments) (s : ℕ) → Sets (fin.get m) (fin.get (fin.remove m s)) s None
sets_remove m s t = fin.get-remove nat_cmp_total m s t ∙ same_test s t _ _

-- what pairs of which no two have one scope list of the map that they stand for
pub listed_of : (ks : List (ℕ × ℕ)) (m : Moments) → moments_in ks ≡ m → OneOfEach (has ks) → Lists (has ks) (fin.get m)
listed_of ks m is one = subst (λ n. Lists (has ks) (fin.get n)) is (lists_pairs ks one)

module _ (old : List (ℕ × ℕ)) (m : Moments) (s : ℕ) (is : moments_in old ≡ m) (one : OneOfEach (has old)) where
  abbrev listed_old : Lists (has old) (fin.get m)
  listed_old = listed_of old m is one

  -- a deadline for a scope that had none
  pub set_first : (new : List (ℕ × ℕ)) (d : ℕ) → fin.get m s ≡ None → Puts (has old) (has new) d s true → Lists (has new) (fin.get (fin.insert m s d))
  set_first new d none puts = lists_first (fin.get m) _ s (has old) (has new) d none listed_old puts (sets_insert m s d)

  -- a deadline in place of another
  pub set_again : (mid new : List (ℕ × ℕ)) (b d : ℕ) → fin.get m s ≡ Some b → d ≢ b → Puts (has old) (has mid) d s true → Puts (has mid) (has new) b s false → Lists (has new) (fin.get (fin.insert m s d))
  set_again mid new b d some ne puts takes = lists_again (fin.get m) _ s (has old) (has mid) (has new) b d some ne listed_old puts takes (sets_insert m s d)

  -- a deadline that is taken away
  pub taken : (new : List (ℕ × ℕ)) (b : ℕ) → fin.get m s ≡ Some b → Puts (has old) (has new) b s false → Lists (has new) (fin.get (fin.remove m s))
  taken new b some takes = lists_without (fin.get m) _ s (has old) (has new) b some listed_old takes (sets_remove m s)

-- a scope without a deadline loses none
none_removed : (m : Moments) (s q : ℕ) → fin.get m s ≡ None → cond (eq_by_cmp nat_cmp q s) None (fin.get m q) ≡ fin.get m q
none_removed m s q none = grind (arith, nat_tests)

pub remove_none : (m : Moments) (s : ℕ) → fin.get m s ≡ None → m ≡ fin.remove m s
remove_none m s none = fin.same_map nat_cmp_total fin.nat_cmp-IsAntisymmetric _ _ (λ q. sym (fin.get-remove nat_cmp_total m s q ∙ none_removed m s q none))
