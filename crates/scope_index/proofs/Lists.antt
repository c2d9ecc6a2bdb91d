-- The list of values that a join answers, one task more.
use Rattle.std.proofs.Common.{[], ℕ, ◌++◌, ◌+◌, ◌<◌, ◌∙◌, ◌≡◌, List, Option, ap, get_or, length, sym, take}
use Rattle.scope_index.specs.{State, TaskValue, cons_option, value_in, values_by}
use Rattle.scope_index.proofs.Words.{filter_map-push, take_more}

-- the value of the next task follows those so far, if it succeeded
values_more : (x : ℕ → State) (ks : List ℕ) (i : ℕ) → i < length ks → values_by x (take (i + 1) ks) ≡ values_by x (take i ks) ++ cons_option (value_in (get_or ks i 0) (x (get_or ks i 0))) []
values_more x ks i within = ap (values_by x) (take_more ks i 0 within) ∙ filter_map-push (λ k. value_in k (x k)) (take i ks) (get_or ks i 0)

-- if it is put behind them, the list is right for one task more
pub values_next : (x : ℕ → State) (ks : List ℕ) (i : ℕ) (xs ys : List TaskValue) (v : Option TaskValue) → i < length ks → xs ≡ values_by x (take i ks) → v ≡ value_in (get_or ks i 0) (x (get_or ks i 0)) → ys ≡ xs ++ cons_option v [] → ys ≡ values_by x (take (i + 1) ks)
values_next x ks i xs ys v within so value more =
    more ∙ (ap (λ zs. zs ++ cons_option v []) so ∙ (ap (λ o. values_by x (take i ks) ++ cons_option o []) value ∙ sym (values_more x ks i within)))
