-- Rows by the numbers of their scopes.
use Rattle.std.proofs.Common.{[], ℕ, ◌-◌, ◌<◌, ◌∙◌, ◌∷◌, ◌≡◌, ◌≤◌, Bool, List, None, Option, Some, ap, arith, cond, eqb, false, get_or, length, refl, set, slice_get, suc, sym, true, zero}
use Rattle.cancel_tree.specs.{IsAdded, IsInward, ScopeNode, altered, changed, option_and_then, option_map, outer, outer_of, parent_of, row}
use Rattle.cancel_tree.proofs.Words.{nat_tests, ne_eqb, set-get_or, slice_get-get_or}

pub row_at : (nodes : List ScopeNode) (s : ℕ) (d : ScopeNode) → IsAdded nodes s → row nodes s ≡ Some (get_or nodes (s - 1) d)
row_at nodes zero d h = absurd (omega (arith, h.0))
row_at nodes (suc i) d h =
    let e : suc i - 1 ≡ i = omega arith in
    slice_get-get_or nodes i d (omega (arith, h.1)) ∙ ap (λ j. Some (get_or nodes j d)) (sym e)

-- what a field says at a scope
pub field_at : {A : Type 0} (f : ScopeNode → Option A) (nodes : List ScopeNode) (s : ℕ) (d : ScopeNode) → IsAdded nodes s → option_and_then f (row nodes s) ≡ f (get_or nodes (s - 1) d)
field_at f nodes s d h = ap (option_and_then f) (row_at nodes s d h)

outer_cases : (b : Bool) (p : Option ℕ) (o : ℕ) → cond b None p ≡ Some o → p ≡ Some o
outer_cases true p o e = absurd (let f : None ≡ Some o = e in cc)
outer_cases false p o e = e

outer_row : (nodes : List ScopeNode) (s p : ℕ) (r : Option ScopeNode) → option_and_then outer r ≡ Some p → option_and_then (λ t. t.parent) r ≡ Some p
outer_row nodes s p None e = e
outer_row nodes s p (Some t) e = outer_cases t.shield t.parent p e

-- an outer scope is a parent
pub outer_inward : (nodes : List ScopeNode) → IsInward (parent_of nodes) → IsInward (outer_of nodes)
outer_inward nodes inward s p e = inward s p (outer_row nodes s p (row nodes s) e)

-- ---- the rows with one changed

pub altered_length : (f : ScopeNode → ScopeNode) (ts : List ScopeNode) (i : ℕ) → length (altered f ts i) ≡ length ts
altered_length f [] i = refl
altered_length f (t ∷ ts) zero = refl
altered_length f (t ∷ ts) (suc i) = ap suc (altered_length f ts i)

eqb_suc : (i j : ℕ) → eqb (suc i) (suc j) ≡ eqb i j
eqb_suc i j = grind (arith, nat_tests)

altered_get : (f : ScopeNode → ScopeNode) (ts : List ScopeNode) (i j : ℕ) → slice_get (altered f ts i) j ≡ cond (eqb j i) (option_map f (slice_get ts j)) (slice_get ts j)
altered_get f [] i j = sym (same_cond (eqb j i) None)
  where
    same_cond : {A : Type 0} (b : Bool) (x : A) → cond b x x ≡ x
    same_cond true x = refl
    same_cond false x = refl
altered_get f (t ∷ ts) zero zero = refl
altered_get f (t ∷ ts) zero (suc j) = ap (λ b. cond b (option_map f (slice_get ts j)) (slice_get ts j)) (sym (ne_eqb (suc j) 0 (λ e. omega arith)))
altered_get f (t ∷ ts) (suc i) zero = ap (λ b. cond b (Some (f t)) (Some t)) (sym (ne_eqb 0 (suc i) (λ e. omega arith)))
altered_get f (t ∷ ts) (suc i) (suc j) = altered_get f ts i j ∙ ap (λ b. cond b (option_map f (slice_get ts j)) (slice_get ts j)) (sym (eqb_suc j i))

altered_set : (f : ScopeNode → ScopeNode) (ts : List ScopeNode) (i : ℕ) (d : ScopeNode) → i < length ts → set ts i (f (get_or ts i d)) ≡ altered f ts i
altered_set f [] i d h = absurd (omega arith)
altered_set f (t ∷ ts) zero d h = refl
altered_set f (t ∷ ts) (suc i) d h = ap (λ us. t ∷ us) (altered_set f ts i d (omega arith))

-- a row that is written is a row that is changed
pub changed_set : (f : ScopeNode → ScopeNode) (nodes : List ScopeNode) (s : ℕ) (d r : ScopeNode) → IsAdded nodes s → r ≡ f (get_or nodes (s - 1) d) → set nodes (s - 1) r ≡ changed nodes s f
changed_set f nodes s d r h e = ap (set nodes (s - 1)) e ∙ altered_set f nodes (s - 1) d (omega (arith, h.0, h.1))

pub row_changed : (f : ScopeNode → ScopeNode) (nodes : List ScopeNode) (s t : ℕ) → 1 ≤ s → row (changed nodes s f) t ≡ cond (eqb t s) (option_map f (row nodes t)) (row nodes t)
row_changed f nodes s zero h = ap (λ b. cond b None None) (sym (ne_eqb 0 s (λ e. omega arith)))
row_changed f nodes s (suc j) h =
    altered_get f nodes (s - 1) j
    ∙ ap (λ b. cond b (option_map f (slice_get nodes j)) (slice_get nodes j)) (let e : eqb j (s - 1) ≡ eqb (suc j) s = grind (arith, nat_tests) in e)

-- a field that the change leaves
pub field_kept : {A : Type 0} (g : ScopeNode → Option A) (f : ScopeNode → ScopeNode) → ((t : ScopeNode) → g (f t) ≡ g t) → (nodes : List ScopeNode) (s t : ℕ) → 1 ≤ s → option_and_then g (row (changed nodes s f) t) ≡ option_and_then g (row nodes t)
field_kept g f same nodes s t h = ap (option_and_then g) (row_changed f nodes s t h) ∙ by (eqb t s) (row nodes t)
  where
    by : (b : Bool) (r : Option ScopeNode) → option_and_then g (cond b (option_map f r) r) ≡ option_and_then g r
    by true None = refl
    by true (Some t) = same t
    by false r = refl

-- a change that changes nothing
pub changed_same : (f : ScopeNode → ScopeNode) (nodes : List ScopeNode) (s : ℕ) (d : ScopeNode) → IsAdded nodes s → f (get_or nodes (s - 1) d) ≡ get_or nodes (s - 1) d → nodes ≡ changed nodes s f
changed_same f nodes s d h e = sym (set-get_or nodes (s - 1) d) ∙ changed_set f nodes s d _ h (sym e)
