-- After each call the latest own cancel and the latest opening are where they were, or at the place that
-- was handed in.
use Rattle.std.proofs.Common.{[], ℕ, ◌++◌, ◌∙◌, ◌∷◌, ◌≡◌, ◌≤◌, ◌⊎◌, Bool, List, None, Option, Some, ap, arith, cond, eqb, false, inl, inr, refl, subst, suc, sym, true, zero}
use Rattle.cancel_tree.specs.{CauseKind, FirstCancel, IsLatest, ScopeNode, cancel_at, changed, new_row, opened_of, option_and_then, option_map, option_or, own_of, row, with_deadline, with_own}
use Rattle.cancel_tree.proofs.Words.{get_push, same_Some, slice_get_within, some_none}
use Rattle.cancel_tree.proofs.{AddLaws.push_cases, RowLaws.field_kept, RowLaws.row_changed}

-- a row of the rows with one more is the new one, or one that was there
row_cases : (nodes : List ScopeNode) (r : ScopeNode) (s : ℕ) (t : ScopeNode) → row (nodes ++ r ∷ []) s ≡ Some t → (t ≡ r) ⊎ (row nodes s ≡ Some t)
row_cases nodes r zero t e = absurd (some_none t e)
row_cases nodes r (suc i) t e = elim (push_cases nodes r i t e) [ inl new ↦ inl new.1 | inr was ↦ inr was.1 ]

-- what a field says somewhere is what it says in a row
in_row : {A : Type 0} (f : ScopeNode → Option A) (o : Option ScopeNode) (x : A) → option_and_then f o ≡ Some x → (t : ScopeNode) × (o ≡ Some t) × (f t ≡ Some x)
in_row f None x e = absurd (some_none x e)
in_row f (Some t) x e = (t, refl, e)

opening_of : (nodes : List ScopeNode) (s n : ℕ) (o : Option ScopeNode) → row nodes s ≡ o → option_map (λ (t : ScopeNode). t.opened) o ≡ Some n → (t : ScopeNode) × (row nodes s ≡ Some t) × (t.opened ≡ n)
opening_of nodes s n None at e = absurd (some_none n e)
opening_of nodes s n (Some t) at e = (t, at, same_Some t.opened n e)

-- the rows with one more are up to the place where those before are, and the new one is
pub latest_add : (nodes : List ScopeNode) (n : ℕ) (parent : Option ℕ) (shield : Bool) (opened : ℕ) → opened ≤ n → IsLatest nodes n → IsLatest (nodes ++ new_row parent shield opened ∷ []) n
latest_add nodes n parent shield opened le h = record {
  own = λ s c e. let at = in_row (λ (t : ScopeNode). t.own) (row (nodes ++ new_row parent shield opened ∷ []) s) c e in
      elim (row_cases nodes (new_row parent shield opened) s at.0 at.1) [
        | inl new ↦ absurd (some_none c (sym (ap (λ (t : ScopeNode). t.own) new) ∙ at.2))
        | inr was ↦ h.own s c (ap (option_and_then (λ (t : ScopeNode). t.own)) was ∙ at.2)
      ];
  opening = λ s m e. let at = opening_of (nodes ++ new_row parent shield opened ∷ []) s m (row (nodes ++ new_row parent shield opened ∷ []) s) refl e in
      elim (row_cases nodes (new_row parent shield opened) s at.0 at.1) [
        | inl new ↦ (let same : opened ≡ m = sym (ap (λ (t : ScopeNode). t.opened) new) ∙ at.2 in omega arith)
        | inr was ↦ h.opening s m (ap (option_map (λ (t : ScopeNode). t.opened)) was ∙ ap Some at.2)
      ];
}

-- what holds of the rows with one more holds of those before
pub latest_before : (nodes : List ScopeNode) (n : ℕ) (r : ScopeNode) → IsLatest (nodes ++ r ∷ []) n → IsLatest nodes n
latest_before nodes n r h = record {
  own = λ s c e. h.own s c (let at = in_row (λ (t : ScopeNode). t.own) (row nodes s) c e in ap (option_and_then (λ (t : ScopeNode). t.own)) (row_there nodes r s at.0 at.1) ∙ at.2);
  opening = λ s m e. h.opening s m (let at = opening_of nodes s m (row nodes s) refl e in ap (option_map (λ (t : ScopeNode). t.opened)) (row_there nodes r s at.0 at.1) ∙ ap Some at.2);
}
  where
    row_there : (nodes : List ScopeNode) (r : ScopeNode) (s : ℕ) (t : ScopeNode) → row nodes s ≡ Some t → row (nodes ++ r ∷ []) s ≡ Some t
    row_there nodes r zero t e = absurd (some_none t e)
    row_there nodes r (suc i) t e = get_push nodes r i (slice_get_within nodes i t e) ∙ e

openings_kept : (f : ScopeNode → ScopeNode) → ((t : ScopeNode) → (f t).opened ≡ t.opened) → (nodes : List ScopeNode) (s t : ℕ) → 1 ≤ s → opened_of (changed nodes s f) t ≡ opened_of nodes t
openings_kept f same nodes s t h = ap (option_map (λ (x : ScopeNode). x.opened)) (row_changed f nodes s t h) ∙ by (eqb t s) (row nodes t)
  where
    by : (b : Bool) (r : Option ScopeNode) → option_map (λ (x : ScopeNode). x.opened) (cond b (option_map f r) r) ≡ option_map (λ (x : ScopeNode). x.opened) r
    by true None = refl
    by true (Some x) = ap Some (same x)
    by false r = refl

-- a cancel and a deadline leave the openings
pub openings_cancel : (nodes : List ScopeNode) (s : ℕ) (c : FirstCancel) (t : ℕ) → 1 ≤ s → opened_of (changed nodes s (with_own c)) t ≡ opened_of nodes t
openings_cancel nodes s c t h = openings_kept (with_own c) (λ x. refl) nodes s t h

pub openings_deadline : (nodes : List ScopeNode) (s : ℕ) (d : Option ℕ) (t : ℕ) → 1 ≤ s → opened_of (changed nodes s (with_deadline d)) t ≡ opened_of nodes t
openings_deadline nodes s d t h = openings_kept (with_deadline d) (λ x. refl) nodes s t h

owns_deadline : (nodes : List ScopeNode) (s : ℕ) (d : Option ℕ) (t : ℕ) → 1 ≤ s → own_of (changed nodes s (with_deadline d)) t ≡ own_of nodes t
owns_deadline nodes s d t h = field_kept (λ t. t.own) (with_deadline d) (λ t. refl) nodes s t h

pub latest_deadline : (nodes : List ScopeNode) (n s : ℕ) (d : Option ℕ) → 1 ≤ s → IsLatest nodes n → IsLatest (changed nodes s (with_deadline d)) n
latest_deadline nodes n s d h l = record {
  own = λ t c e. l.own t c (sym (owns_deadline nodes s d t h) ∙ e);
  opening = λ t m e. l.opening t m (sym (openings_deadline nodes s d t h) ∙ e);
}

pub latest_deadline_before : (nodes : List ScopeNode) (n s : ℕ) (d : Option ℕ) → 1 ≤ s → IsLatest (changed nodes s (with_deadline d)) n → IsLatest nodes n
latest_deadline_before nodes n s d h l = record {
  own = λ t c e. l.own t c (owns_deadline nodes s d t h ∙ e);
  opening = λ t m e. l.opening t m (openings_deadline nodes s d t h ∙ e);
}

abbrev IsUpTo : ℕ → Option ScopeNode → Type 0
IsUpTo n r = (c : FirstCancel) → option_and_then (λ (t : ScopeNode). t.own) r ≡ Some c → c.place ≤ n

owned : (n m : ℕ) → n ≤ m → (c : FirstCancel) → c.place ≡ m → (o : Option FirstCancel) → ((x : FirstCancel) → o ≡ Some x → x.place ≤ n) → (y : FirstCancel) → option_or o (Some c) ≡ Some y → y.place ≤ m
owned n m le c is None h y e = (let f : c.place ≡ y.place = ap (λ (x : FirstCancel). x.place) (same_Some c y e) in omega arith)
owned n m le c is (Some o) h y e = (let f : y.place ≤ n = h y e in omega arith)

put_own : (n m : ℕ) → n ≤ m → (c : FirstCancel) → c.place ≡ m → (b : Bool) (r : Option ScopeNode) → IsUpTo n r → IsUpTo m (cond b (option_map (with_own c) r) r)
put_own n m le c is true None h y e = absurd (some_none y e)
put_own n m le c is true (Some t) h y e = owned n m le c is t.own h y e
put_own n m le c is false r h y e = (let f : y.place ≤ n = h y e in omega arith)

pub latest_cancel : (nodes : List ScopeNode) (n m s : ℕ) (kind : CauseKind) → 1 ≤ s → n ≤ m → IsLatest nodes n → IsLatest (changed nodes s (with_own (cancel_at m s kind))) m
latest_cancel nodes n m s kind h le l = record {
  own = λ t. subst (IsUpTo m) (sym (row_changed (with_own (cancel_at m s kind)) nodes s t h)) (put_own n m le (cancel_at m s kind) refl (eqb t s) (row nodes t) (l.own t));
  opening = λ t x e. let f : x ≤ n = l.opening t x (sym (openings_cancel nodes s (cancel_at m s kind) t h) ∙ e) in omega arith;
}

stays : (c : FirstCancel) (b : Bool) (r : Option ScopeNode) (y : FirstCancel) → option_and_then (λ (t : ScopeNode). t.own) r ≡ Some y → option_and_then (λ (t : ScopeNode). t.own) (cond b (option_map (with_own c) r) r) ≡ Some y
stays c b None y e = absurd (some_none y e)
stays c true (Some t) y e = ap (λ o. option_or o (Some c)) e
stays c false (Some t) y e = e

-- what holds of the rows with an own cancel holds of those before
pub latest_cancel_before : (nodes : List ScopeNode) (n s : ℕ) (c : FirstCancel) → 1 ≤ s → IsLatest (changed nodes s (with_own c)) n → IsLatest nodes n
latest_cancel_before nodes n s c h l = record {
  own = λ t y e. l.own t y (ap (option_and_then (λ (x : ScopeNode). x.own)) (row_changed (with_own c) nodes s t h) ∙ stays c (eqb t s) (row nodes t) y e);
  opening = λ t m e. l.opening t m (openings_cancel nodes s c t h ∙ e);
}
