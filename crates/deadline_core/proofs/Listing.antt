-- What a write to the order of deadlines, beside a write to the map of them, leaves listed.
use Rattle.std.proofs.Common.{ℕ, ◌&&◌, ◌∙◌, ◌≡◌, ◌≢◌, Bool, None, Option, Some, ap, arith, cond, eqb, false, sym, true}
use Rattle.deadline_core.specs.{is_at, is_moment, nat_cmp, pair_cmp}
use Rattle.deadline_core.proofs.Words.{nat_tests}

pub at_pair : (d s e t : ℕ) → is_at (pair_cmp (d, s)) (e, t) ≡ (eqb d e && eqb s t)
at_pair d s e t = grind (arith, nat_tests)

pub at_scope : (s t : ℕ) → is_at (nat_cmp s) t ≡ eqb s t
at_scope s t = grind (arith, nat_tests)

module _ (f : ℕ → Option ℕ) (s : ℕ) where
  -- a deadline for a scope that had none
  pub listed_first : f s ≡ None → (d e t : ℕ) → cond (eqb d e && eqb s t) true (is_moment (f t) e) ≡ is_moment (cond (eqb s t) (Some d) (f t)) e
  listed_first none d e t = grind (arith, nat_tests)

  -- a deadline in place of another
  pub listed_again : (b : ℕ) → f s ≡ Some b → (d e t : ℕ) → d ≢ b → cond (eqb b e && eqb s t) false (cond (eqb d e && eqb s t) true (is_moment (f t) e)) ≡ is_moment (cond (eqb s t) (Some d) (f t)) e
  listed_again b some d e t ne = grind (arith, nat_tests)

  -- a listing that is taken back
  pub listed_back : f s ≡ None → (d e t : ℕ) → cond (eqb d e && eqb s t) false (cond (eqb d e && eqb s t) true (is_moment (f t) e)) ≡ is_moment (f t) e
  listed_back none d e t = grind (arith, nat_tests)

  -- a deadline that is taken away
  pub listed_without : (b : ℕ) → f s ≡ Some b → (e t : ℕ) → cond (eqb b e && eqb s t) false (is_moment (f t) e) ≡ is_moment (cond (eqb s t) None (f t)) e
  listed_without b some e t = grind (arith, nat_tests)

-- what lists each deadline with its scope, by functions
abbrev pub Lists : (ℕ → ℕ → Bool) → (ℕ → Option ℕ) → Type 0
Lists order f = (e t : ℕ) → order e t ≡ is_moment (f t) e

abbrev pub Puts : (ℕ → ℕ → Bool) → (ℕ → ℕ → Bool) → ℕ → ℕ → Bool → Type 0
Puts old new d s b = (e t : ℕ) → new e t ≡ cond (is_at (pair_cmp (d, s)) (e, t)) b (old e t)

abbrev pub Sets : (ℕ → Option ℕ) → (ℕ → Option ℕ) → ℕ → Option ℕ → Type 0
Sets f g s o = (t : ℕ) → g t ≡ cond (is_at (nat_cmp s) t) o (f t)

put_at : (d s e t : ℕ) (b : Bool) (x y : Bool) → x ≡ y → cond (is_at (pair_cmp (d, s)) (e, t)) b x ≡ cond (eqb d e && eqb s t) b y
put_at d s e t b x y same = λ i. cond (at_pair d s e t i) b (same i)

moment_at : (f g : ℕ → Option ℕ) (s : ℕ) (o : Option ℕ) → Sets f g s o → (e t : ℕ) → is_moment (cond (eqb s t) o (f t)) e ≡ is_moment (g t) e
moment_at f g s o sets e t = ap (λ x. is_moment (cond x o (f t)) e) (sym (at_scope s t)) ∙ ap (λ x. is_moment x e) (sym (sets t))

module _ (f g : ℕ → Option ℕ) (s : ℕ) where
  pub lists_first : (old new : ℕ → ℕ → Bool) (d : ℕ) → f s ≡ None → Lists old f → Puts old new d s true → Sets f g s (Some d) → Lists new g
  lists_first old new d none lists puts sets e t =
      puts e t ∙ put_at d s e t true _ _ (lists e t) ∙ listed_first f s none d e t ∙ moment_at f g s (Some d) sets e t

  pub lists_again : (old mid new : ℕ → ℕ → Bool) (b d : ℕ) → f s ≡ Some b → d ≢ b → Lists old f → Puts old mid d s true → Puts mid new b s false → Sets f g s (Some d) → Lists new g
  lists_again old mid new b d some ne lists puts takes sets e t =
      takes e t ∙ put_at b s e t false _ _ (puts e t ∙ put_at d s e t true _ _ (lists e t)) ∙ listed_again f s b some d e t ne ∙ moment_at f g s (Some d) sets e t

  pub lists_without : (old new : ℕ → ℕ → Bool) (b : ℕ) → f s ≡ Some b → Lists old f → Puts old new b s false → Sets f g s None → Lists new g
  lists_without old new b some lists takes sets e t =
      takes e t ∙ put_at b s e t false _ _ (lists e t) ∙ listed_without f s b some e t ∙ moment_at f g s None sets e t

pub lists_back : (f g : ℕ → Option ℕ) (s : ℕ) (old mid new : ℕ → ℕ → Bool) (d : ℕ) → f s ≡ None → ((t : ℕ) → g t ≡ f t) → Lists old f → Puts old mid d s true → Puts mid new d s false → Lists new g
lists_back f g s old mid new d none same lists puts takes e t =
    takes e t ∙ put_at d s e t false _ _ (puts e t ∙ put_at d s e t true _ _ (lists e t)) ∙ listed_back f s none d e t ∙ ap (λ o. is_moment o e) (sym (same t))
