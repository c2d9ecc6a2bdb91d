-- The index goes on as the rows do.
use Rattle.std.proofs.Common.{[], ℕ, ◌++◌, ◌+◌, ◌-◌, ◌<◌, ◌^◌, ◌∙◌, ◌∷◌, ◌≡◌, ◌≤◌, Bool, List, None, Option, Some, add-one, ap, arith, cond, eqb, false, is_some, length, length-append, refl, slice_get, suc, sym, true, zero}
use Rattle.cancel_tree.proofs.RowLaws.{altered_length}
use Rattle.scope_index.specs.{AreKept, CauseKind, FirstCancel, IsAdded, JoinerStanding, Moments, ScopeNode, awaited, awaited_of, cancel_at, changed, eq_by_cmp, nat_cmp, nat_cmp_total, new_row, option_and_then, option_map}
use Rattle.scope_index.specs.{option_or, own_of, to_come, with_deadline, with_own}
use Rattle.scope_index.proofs.Words.{eqb-true, le-ltb, lt-ltb, nat_tests, row_at, row_changed, slice_get_past}
use Rattle.std.specs.FinMap as map
use Rattle.cancel_tree.specs.Rows as rows

pub tied : (q k : ℕ) → eq_by_cmp nat_cmp q k ≡ eqb q k
tied q k = grind (arith, nat_tests)

-- what the index has of each row after the change of one
awaited_put : (now n : ℕ) (f : ScopeNode → ScopeNode) (v : Option ℕ) (nodes : List ScopeNode) (m : ℕ) → IsAdded nodes n → ((t : ScopeNode) → rows.row nodes n ≡ Some t → awaited now (f t) ≡ v) → awaited_of now (changed nodes n f) m ≡ cond (eqb m n) v (awaited_of now nodes m)
awaited_put now n f v nodes m added here = ap (option_and_then (awaited now)) (row_changed f nodes n m added.0) ∙ by (eqb m n) refl (rows.row nodes m) refl
  where
    no_told : ScopeNode
    no_told = record { parent = None; shield = false; opened = 0; own = None; deadline = None }

    by : (b : Bool) → eqb m n ≡ b → (r : Option ScopeNode) → rows.row nodes m ≡ r → option_and_then (awaited now) (cond b (option_map f r) r) ≡ cond b v (option_and_then (awaited now) r)
    by true at (Some t) is = here t (ap (rows.row nodes) (sym (eqb-true m n at)) ∙ is)
    by true at None is = absurd (cc (sym (row_at nodes n no_told added), ap (rows.row nodes) (sym (eqb-true m n at)), is))
    by false at r is = refl

-- a row is changed, and the index has of it what the row then awaits
kept_put : (before now n : ℕ) (f : ScopeNode → ScopeNode) (v : Option ℕ) (nodes : List ScopeNode) (accounts : List JoinerStanding) (moments moments' : Moments) → IsAdded nodes n → AreKept before now nodes accounts moments → ((t : ScopeNode) → rows.row nodes n ≡ Some t → awaited now (f t) ≡ v)
    → ((m : ℕ) → map.get moments' m ≡ cond (eq_by_cmp nat_cmp m n) v (map.get moments m)) → AreKept before now (changed nodes n f) accounts moments'
kept_put before now n f v nodes accounts moments moments' added was here put =
    let same = altered_length f nodes (n - 1) in
    record {
      rows = was.rows ∙ sym same;
      numbers = omega (arith, was.numbers, same);
      indexed = λ m.
          put m
          ∙ (ap (λ b. cond b v (map.get moments m)) (tied m n)
          ∙ (ap (λ o. cond (eqb m n) v o) (was.indexed m)
          ∙ sym (awaited_put now n f v nodes m added here)));
    }

pub cancelled_awaits : (now : ℕ) (c : FirstCancel) (t : ScopeNode) → awaited now (with_own c t) ≡ None
cancelled_awaits now c t = by t.own
  where
    by : (o : Option FirstCancel) → cond (is_some (option_or o (Some c))) None (to_come now t.deadline) ≡ None
    by None = refl
    by (Some x) = refl

-- an own cancel takes the deadline out of the index
pub kept_cancel : (before now n place : ℕ) (kind : CauseKind) (nodes : List ScopeNode) (accounts : List JoinerStanding) (moments : Moments) → IsAdded nodes n → AreKept before now nodes accounts moments
    → AreKept before now (changed nodes n (with_own (cancel_at place n kind))) accounts (map.remove moments n)
kept_cancel before now n place kind nodes accounts moments added was =
    kept_put before now n (with_own (cancel_at place n kind)) None nodes accounts moments (map.remove moments n) added was (λ t is. cancelled_awaits now (cancel_at place n kind) t) (map.get-remove nat_cmp_total moments n)

none_either : (b : Bool) (o : Option ℕ) → o ≡ None → cond b None o ≡ None
none_either true o none = refl
none_either false o none = none

-- a deadline that is taken away is taken out of the index
pub kept_join : (before now n : ℕ) (nodes : List ScopeNode) (accounts : List JoinerStanding) (moments : Moments) → IsAdded nodes n → AreKept before now nodes accounts moments
    → AreKept before now (changed nodes n (with_deadline None)) accounts (map.remove moments n)
kept_join before now n nodes accounts moments added was = kept_put before now n (with_deadline None) None nodes accounts moments (map.remove moments n) added was (λ t is. none_either (is_some t.own) None refl) (map.get-remove nat_cmp_total moments n)

no_own : (nodes : List ScopeNode) (n : ℕ) (t : ScopeNode) → is_some (own_of nodes n) ≡ false → rows.row nodes n ≡ Some t → is_some t.own ≡ false
no_own nodes n t none is = ap (λ r. is_some (option_and_then (λ (x : ScopeNode). x.own) r)) (sym is) ∙ none

-- a deadline that is still to come is put into the index, if the scope has no own cancel
pub kept_move : (before now n d : ℕ) (nodes : List ScopeNode) (accounts : List JoinerStanding) (moments : Moments) → IsAdded nodes n → is_some (own_of nodes n) ≡ false → now < d → AreKept before now nodes accounts moments
    → AreKept before now (changed nodes n (with_deadline (Some d))) accounts (map.insert moments n d)
kept_move before now n d nodes accounts moments added none later was =
    let coming : to_come now (Some d) ≡ Some d = ap (λ b. cond b (Some d) None) (lt-ltb now d later) in
    kept_put before now n (with_deadline (Some d)) (Some d) nodes accounts moments (map.insert moments n d) added was (λ t is. ap (λ b. cond b None (to_come now (Some d))) (no_own nodes n t none is) ∙ coming) (map.get-insert nat_cmp_total moments n d)

own_some : (nodes : List ScopeNode) (n : ℕ) (t : ScopeNode) → is_some (own_of nodes n) ≡ true → rows.row nodes n ≡ Some t → is_some t.own ≡ true
own_some nodes n t some is = ap (λ r. is_some (option_and_then (λ (x : ScopeNode). x.own) r)) (sym is) ∙ some

-- and left out if it has one
pub kept_over : (before now n d : ℕ) (nodes : List ScopeNode) (accounts : List JoinerStanding) (moments : Moments) → IsAdded nodes n → is_some (own_of nodes n) ≡ true → AreKept before now nodes accounts moments
    → AreKept before now (changed nodes n (with_deadline (Some d))) accounts moments
kept_over before now n d nodes accounts moments added some was =
    kept_put before now n (with_deadline (Some d)) None nodes accounts moments moments added was
    (λ t is. ap (λ b. cond b None (to_come now (Some d))) (own_some nodes n t some is))
    (λ m. out (eqb m n) m refl ∙ ap (λ b. cond b None (map.get moments m)) (sym (tied m n)))
  where
    gone : (r : Option ScopeNode) → rows.row nodes n ≡ r → option_and_then (awaited now) r ≡ None
    gone None is = refl
    gone (Some t) is = ap (λ b. cond b None (to_come now t.deadline)) (own_some nodes n t some is)

    out : (b : Bool) (m : ℕ) → eqb m n ≡ b → map.get moments m ≡ cond b None (map.get moments m)
    out true m is = ap (map.get moments) (eqb-true m n is) ∙ (was.indexed n ∙ gone (rows.row nodes n) refl)
    out false m is = refl

-- one that has passed is not
pub kept_past : (before now n d : ℕ) (nodes : List ScopeNode) (accounts : List JoinerStanding) (moments : Moments) → IsAdded nodes n → d ≤ now → AreKept before now nodes accounts moments
    → AreKept before now (changed nodes n (with_deadline (Some d))) accounts (map.remove moments n)
kept_past before now n d nodes accounts moments added past was =
    let gone : to_come now (Some d) ≡ None = ap (λ b. cond b (Some d) None) (le-ltb now d past) in
    kept_put before now n (with_deadline (Some d)) None nodes accounts moments (map.remove moments n) added was (λ t is. none_either (is_some t.own) (to_come now (Some d)) gone) (map.get-remove nat_cmp_total moments n)

-- with no rows nothing is listed
pub kept_begun : (before now : ℕ) → before < 2 ^ 32 → AreKept before now [] [] map.empty
kept_begun before now small = record {
  rows = refl;
  numbers = omega (arith, small);
  indexed = λ n. map.get-empty nat_cmp n ∙ sym (none n);
}
  where
    none : (n : ℕ) → awaited_of now [] n ≡ None
    none zero = refl
    none (suc n) = refl

awaited_added : (now : ℕ) (inside : Option ℕ) (shield : Bool) (opened : ℕ) (nodes : List ScopeNode) (n : ℕ) → awaited_of now (nodes ++ new_row inside shield opened ∷ []) n ≡ awaited_of now nodes n
awaited_added now inside shield opened nodes zero = refl
awaited_added now inside shield opened [] (suc zero) = refl
awaited_added now inside shield opened [] (suc (suc i)) = refl
awaited_added now inside shield opened (t ∷ ts) (suc zero) = refl
awaited_added now inside shield opened (t ∷ ts) (suc (suc i)) = awaited_added now inside shield opened ts (suc i)

-- a scope without a deadline leaves the index
pub kept_add : (before now : ℕ) (inside : Option ℕ) (shield : Bool) (opened : ℕ) (account : JoinerStanding) (nodes : List ScopeNode) (accounts : List JoinerStanding) (moments : Moments) → before + length nodes + 1 < 2 ^ 32 → AreKept before now nodes accounts moments
    → AreKept before now (nodes ++ new_row inside shield opened ∷ []) (accounts ++ account ∷ []) moments
kept_add before now inside shield opened account nodes accounts moments small was = record {
  rows = omega (arith, length-append accounts (account ∷ []), length-append nodes (new_row inside shield opened ∷ []), was.rows);
  numbers = omega (arith, small, length-append nodes (new_row inside shield opened ∷ []));
  indexed = λ n. was.indexed n ∙ sym (awaited_added now inside shield opened nodes n);
}

new_has_no_own : (inside : Option ℕ) (shield : Bool) (opened : ℕ) (nodes : List ScopeNode) → is_some (own_of (nodes ++ new_row inside shield opened ∷ []) (length nodes + 1)) ≡ false
new_has_no_own inside shield opened nodes = rw (add-one (length nodes)) (last nodes)
  where
    last : (ts : List ScopeNode) → is_some (option_and_then (λ (t : ScopeNode). t.own) (slice_get (ts ++ new_row inside shield opened ∷ []) (length ts))) ≡ false
    last [] = refl
    last (t ∷ ts) = last ts

-- one with a deadline that is still to come is put into the index
pub kept_add_before : (before now d : ℕ) (inside : Option ℕ) (shield : Bool) (opened : ℕ) (account : JoinerStanding) (nodes : List ScopeNode) (accounts : List JoinerStanding) (moments : Moments) → before + length nodes + 1 < 2 ^ 32 → now < d → AreKept before now nodes accounts moments
    → AreKept before now (changed (nodes ++ new_row inside shield opened ∷ []) (length nodes + 1) (with_deadline (Some d))) (accounts ++ account ∷ []) (map.insert moments (length nodes + 1) d)
kept_add_before before now d inside shield opened account nodes accounts moments small coming was =
    kept_move before now (length nodes + 1) d (nodes ++ new_row inside shield opened ∷ []) (accounts ++ account ∷ []) moments
    (omega arith, omega (arith, length-append nodes (new_row inside shield opened ∷ []))) (new_has_no_own inside shield opened nodes) coming (kept_add before now inside shield opened account nodes accounts moments small was)

none_awaited : (now : ℕ) (nodes : List ScopeNode) → awaited_of now nodes (length nodes + 1) ≡ None
none_awaited now nodes = rw (add-one (length nodes)) (ap (option_and_then (awaited now)) (slice_get_past nodes (length nodes) (omega arith)))

out_again : (m : Moments) (k d n : ℕ) (b : Bool) → eqb n k ≡ b → map.get m k ≡ None → cond b None (cond b (Some d) (map.get m n)) ≡ map.get m n
out_again m k d n true is none = sym (ap (map.get m) (eqb-true n k is) ∙ none)
out_again m k d n false is none = refl

-- what was put into the index for a scope that was then refused is taken out again
pub kept_refused : (before now d : ℕ) (nodes : List ScopeNode) (accounts : List JoinerStanding) (moments : Moments) → AreKept before now nodes accounts moments → map.remove (map.insert moments (length nodes + 1) d) (length nodes + 1) ≡ moments
kept_refused before now d nodes accounts moments was =
    let n = length nodes + 1 in
    let none : map.get moments n ≡ None = was.indexed n ∙ none_awaited now nodes in
    map.same_map nat_cmp_total map.nat_cmp-IsAntisymmetric _ _
    (λ q.
    map.get-remove nat_cmp_total (map.insert moments n d) n q
    ∙ (ap (cond (eq_by_cmp nat_cmp q n) None) (map.get-insert nat_cmp_total moments n d q)
    ∙ (ap (λ b. cond b None (cond b (Some d) (map.get moments q))) (tied q n)
    ∙ out_again moments n d q (eqb q n) refl none)))
