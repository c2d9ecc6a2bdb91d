-- What is answered of scopes that were opened since the base, and that others are refused.
use Rattle.std.proofs.Common.{ℕ, ◌∙◌, ◌≡◌, Err, None, Ok, Option, Result, Some, ap, ok_or, option_map, refl, sym}
use Rattle.tree_dump.specs.{Checked, History, NoScope, Opening, Refusal, ScopeInfo, checked_then, info, info_of, info_reply, opening, scope_check}
use Rattle.tree_dump.proofs.Lemmas.{scope_passes}

value_of : {A : Type 0} (c : Checked) (o : Option A) (r : Refusal) (x : A) → checked_then c (ok_or o r) ≡ Ok x → o ≡ Some x
value_of (Ok done) (Some y) r x e = cc
value_of (Ok done) None r x e = absurd cc
value_of (Err other) o r x e = absurd cc

pub info_ok : (h : History) (s : ℕ) (i : ScopeInfo) → info_reply h s ≡ Ok i → info h s ≡ Some i
info_ok h s i is = value_of (scope_check h s) (info h s) NoScope i is

-- what there is to say of a scope is said of one that passes
pub info_passes : (h : History) (s : ℕ) (i : ScopeInfo) → info h s ≡ Some i → scope_check h i.scope ≡ Ok tt
unfolding info
info_passes h s i is = by (opening h s) refl is
  where
    by : (o : Option Opening) → opening h s ≡ o → option_map (info_of h s) (opening h s) ≡ Some i → scope_check h i.scope ≡ Ok tt
    by None e some = absurd (none_some (ap (option_map (info_of h s)) (sym e) ∙ some))
      where
        none_some : None ≡ Some i → ⊥
        none_some x = absurd cc
    by (Some o) e some =
        let same : info_of h s o ≡ i = the_same (ap (option_map (info_of h s)) (sym e) ∙ some) in
        ap (λ j. scope_check h j.scope) (sym same) ∙ scope_passes h s o e
      where
        the_same : Some (info_of h s o) ≡ Some i → info_of h s o ≡ i
        the_same x = cc

ok_err : {A B : Type 0} (a : Result A Refusal) (x : A) (r : Refusal) → a ≡ Ok x → a ≡ Err r → B
ok_err a x r ok err = absurd cc

pub info_err : (h : History) (s : ℕ) (r : Refusal) → info_reply h s ≡ Err r → info h s ≡ None
unfolding info
info_err h s r is = by (opening h s) refl
  where
    by : (o : Option Opening) → opening h s ≡ o → option_map (info_of h s) (opening h s) ≡ None
    by None e = ap (option_map (info_of h s)) e
    by (Some o) e = ok_err (info_reply h s) (info_of h s o) r
        (ap (λ c. checked_then c (ok_or (info h s) NoScope)) (scope_passes h s o e) ∙ ap (λ x. ok_or (option_map (info_of h s) x) NoScope) e) is
