-- The first place at which something is so.
use Rattle.std.specs.Prelude.{◌<◌, ◌≡◌, ◌≤◌, ◌⊎◌}
use Rattle.run_picture.specs.{ℕ, None, Option, Some, earliest, min, option_or, sooner, suc, zero}
use Rattle.run_picture.proofs.Lemmas.{ap, arith, cases_eq, cases_lt, inl, inr, refl, subst, sym}

-- it is so at the place
pub record IsThere (test : ℕ → Type 0) (n i : ℕ) : Type 0 where
  pub within : i < n
  pub so : test i
  pub first : (j : ℕ) → j < i → test j → ⊥

-- the place is the first one below n, if there is one
pub record IsFirst (test : ℕ → Type 0) (n : ℕ) (place : Option ℕ) : Type 0 where
  pub none : place ≡ None → (i : ℕ) → i < n → test i → ⊥
  pub there : (i : ℕ) → place ≡ Some i → IsThere test n i

first_more : (test : ℕ → Type 0) (n : ℕ) (o p : Option ℕ) → IsFirst test n o → ((i : ℕ) → p ≡ Some i → (i ≡ n) × test n) → (test n → p ≡ Some n) → IsFirst test (suc n) (option_or o p)
first_more test n (Some i) p old gives found = record {
  none = λ none. absurd cc;
  there = λ j is. let it = old.there j is in record { within = omega (arith, it.within); so = it.so; first = it.first };
}
first_more test n None (Some i) old gives found = record {
  none = λ none. absurd cc;
  there = λ j is. let it = gives j is in record { within = omega (arith, it.0); so = subst test (sym it.0) it.1; first = λ k less so. old.none refl k (omega (arith, it.0, less)) so };
}
first_more test n None None old gives found = record {
  none = λ none i within so. elim (cases_eq i n) [
    | inl last ↦ let P : Option ℕ → Type 0 = λ o. o ≡ Some n in absurd (cc (found (subst test last so)))
    | inr other ↦ old.none refl i (omega arith) so
  ];
  there = λ i is. absurd cc;
}

-- a search finds the first place
pub first_found : (test : ℕ → Type 0) (f : ℕ → Option ℕ) → ((i j : ℕ) → f i ≡ Some j → (j ≡ i) × test i) → ((i : ℕ) → test i → f i ≡ Some i) → (n : ℕ) → IsFirst test n (earliest f n)
unfolding earliest
first_found test f gives found zero = record { none = λ none i within so. absurd (omega arith); there = λ i is. absurd cc }
first_found test f gives found (suc n) = first_more test n (earliest f n) (f n) (first_found test f gives found n) (gives n) (found n)

-- there is one first place
pub first_once : (test : ℕ → Type 0) (n : ℕ) (o p : Option ℕ) → IsFirst test n o → IsFirst test n p → o ≡ p
first_once test n None None a b = refl
first_once test n None (Some j) a b = let it = b.there j refl in absurd (a.none refl j it.within it.so)
first_once test n (Some i) None a b = let it = a.there i refl in absurd (b.none refl i it.within it.so)
first_once test n (Some i) (Some j) a b =
    let left = a.there i refl in
    let right = b.there j refl in
    elim (cases_lt i j) [
      | inl less ↦ absurd (right.first i less left.so)
      | inr more ↦ elim (cases_lt j i) [ inl less ↦ absurd (left.first j less right.so) | inr same ↦ let is : i ≡ j = omega arith in ap Some is ]
    ]

-- what is so at a place is so by itself or from outside, where it is so by itself or was already
module _ (test own outer : ℕ → Type 0) (n : ℕ) (split : (i : ℕ) → test i → own i ⊎ outer i) (by_own : (i : ℕ) → own i → test i) (by_outer : (i : ℕ) → i < n → outer i → (j : ℕ) × (j ≤ i) × test j) where
  none_below : (m : ℕ) → ((j : ℕ) → j < m → own j → ⊥) → ((j : ℕ) → j < m → outer j → ⊥) → (j : ℕ) → j < m → test j → ⊥
  none_below m no_own no_outer j less so = elim (split j so) [ inl it ↦ no_own j less it | inr it ↦ no_outer j less it ]

  by_outer_here : (m : ℕ) → ((j : ℕ) → j < m → own j → ⊥) → IsThere outer n m → IsThere test n m
  by_outer_here m no_own it =
      let first = none_below m no_own it.first in
      let found = by_outer m it.within it.so in
      record {
        within = it.within;
        so = elim (cases_lt found.0 m) [ inl less ↦ absurd (first found.0 less found.2) | inr more ↦ let same : found.0 ≡ m = omega (arith, found.1, more) in subst test same found.2 ];
        first = first;
      }

  by_own_here : (m : ℕ) → IsThere own n m → ((j : ℕ) → j < m → outer j → ⊥) → IsThere test n m
  by_own_here m it no_outer = record { within = it.within; so = by_own m it.so; first = none_below m it.first no_outer }

  sooner_here : (a b : ℕ) → IsThere own n a → IsThere outer n b → IsThere test n (min a b)
  sooner_here a b left right =
      elim (cases_lt b a) [
        | inl less ↦ let is : b ≡ min a b = omega arith in subst (IsThere test n) is (by_outer_here b (λ j below it. left.first j (omega arith) it) right)
        | inr more ↦ let is : a ≡ min a b = omega arith in subst (IsThere test n) is (by_own_here a left (λ j below it. right.first j (omega arith) it))
      ]

  -- the sooner of the two first places is the first
  pub sooner_first : (o p : Option ℕ) → IsFirst own n o → IsFirst outer n p → IsFirst test n (sooner o p)
  sooner_first None None a b = record {
    none = λ none i within so. elim (split i so) [ inl it ↦ a.none refl i within it | inr it ↦ b.none refl i within it ];
    there = λ i is. absurd cc;
  }
  sooner_first None (Some q) a b = record {
    none = λ none. absurd cc;
    there = λ i is. let same : q ≡ i = cc in let it = b.there q refl in subst (IsThere test n) same (by_outer_here q (λ j below so. a.none refl j (omega (arith, it.within, below)) so) it);
  }
  sooner_first (Some p) None a b = record {
    none = λ none. absurd cc;
    there = λ i is. let same : p ≡ i = cc in let it = a.there p refl in subst (IsThere test n) same (by_own_here p it (λ j below so. b.none refl j (omega (arith, it.within, below)) so));
  }
  sooner_first (Some p) (Some q) a b = record {
    none = λ none. absurd cc;
    there = λ i is. let same : min p q ≡ i = cc in subst (IsThere test n) same (sooner_here p q (a.there p refl) (b.there q refl));
  }
