-- What the walk finds at a place.
use Rattle.std.proofs.Common.{ℕ, ◌∙◌, ◌≡◌, None, Option, Some, ap, arith, option_and_then, option_map, refl, suc, sym, zero}
use Rattle.tree_dump.specs.{Clock, Data, History, Opening, ScopeInfo, Tree.nested, info, info_of, inner, null, opening, option_map_or, scope_object, scope_shown, scope_since, tasks_shown}

pub info_scope : (h : History) (s : ℕ) (i : ScopeInfo) → info h s ≡ Some i → i.scope ≡ s
unfolding info
info_scope h s i is = by (opening h s) is
  where
    by : (o : Option Opening) → option_map (info_of h s) o ≡ Some i → i.scope ≡ s
    by None e = absurd cc
    by (Some o) e = let same : info_of h s o ≡ i = cc in ap (λ j. j.scope) (sym same)

-- what there is to say at a place is said of the scope there
pub info_here : (h : History) (place : Option ℕ) (i : ScopeInfo) → option_and_then (info h) place ≡ Some i → info h i.scope ≡ Some i
info_here h None i e = absurd cc
info_here h (Some s) i e = ap (info h) (info_scope h s i e) ∙ e

pub nested_none : (by : Option Clock) (h : History) (levels : ℕ) (place : Option ℕ) → levels ≡ 0 → nested by h levels place ≡ null
unfolding nested
nested_none by h zero place e = refl
nested_none by h (suc levels) place e = absurd (omega (arith, e))

pub nested_absent : (by : Option Clock) (h : History) (levels : ℕ) (place : Option ℕ) → option_and_then (info h) place ≡ None → nested by h levels place ≡ null
unfolding nested
nested_absent by h zero place e = refl
nested_absent by h (suc levels) None e = refl
nested_absent by h (suc levels) (Some s) e = rw e refl

shown_at : (by : Option Clock) (h : History) (inside : Option ℕ → Data) (s t : ℕ) (i : ScopeInfo) → info h s ≡ Some i → t ≡ s →
    scope_shown by h inside s ≡ scope_object i (option_map (λ c. scope_since c h i.scope) by) (inside (inner h t)) (tasks_shown by h inside t)
shown_at by h inside s t i e same = rw same (ap (λ o. option_map_or (λ j. scope_object j (option_map (λ c. scope_since c h j.scope) by) (inside (inner h s)) (tasks_shown by h inside s)) o null) e)

pub nested_shown : (by : Option Clock) (h : History) (n levels : ℕ) (place : Option ℕ) (i : ScopeInfo) → n ≡ suc levels → option_and_then (info h) place ≡ Some i →
    nested by h n place ≡ scope_object i (option_map (λ c. scope_since c h i.scope) by) (nested by h levels (inner h i.scope)) (tasks_shown by h (nested by h levels) i.scope)
unfolding nested
nested_shown by h n levels None i more e = absurd cc
nested_shown by h n levels (Some s) i more e = ap (λ m. nested by h m (Some s)) more ∙ shown_at by h (nested by h levels) s i.scope i e (info_scope h s i e)

pub none_if : {A : Type 0} (o : Option A) → ((x : A) → o ≡ Some x → ⊥) → o ≡ None
none_if None no_some = refl
none_if (Some x) no_some = absurd (no_some x refl)
