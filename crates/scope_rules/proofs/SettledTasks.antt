-- A scope is settled if each of its tasks is.
use Rattle.std.proofs.Common.{[], ℕ, ◌&&◌, ◌+◌, ◌<◌, ◌==◌, ◌∙◌, ◌∷◌, ◌≡◌, Bool, List, None, Option, Some, ap, arith, false, not, refl, suc, sym, true, zero}
use Rattle.scope_rules.specs.{Forking, History.History, Tasks.settled, forked_count, forking, is_settled, is_task_of, is_unsettled, list_any, option_map_or, range_with_len, stage, task_numbers}
use Rattle.scope_rules.proofs.Words.{eq-eqb, eqb-true, not-true, or_from, or_parts}
use Rattle.scope_rules.proofs.Forkings.{forked_after}

-- if the test holds of none of the numbers, it doesn't of each
none_at : (p : ℕ → Bool) (a n i : ℕ) → list_any p (range_with_len a n) ≡ false → i < n → p (a + i) ≡ false
none_at p a zero i none within = absurd (omega arith)
none_at p a (suc n) zero none within = let same : a + 0 ≡ a = omega arith in ap p same ∙ (or_parts (p a) (list_any p (range_with_len (a + 1) n)) none).0
none_at p a (suc n) (suc i) none within =
    let same : a + suc i ≡ (a + 1) + i = omega arith in
    ap p same ∙ none_at p (a + 1) n i (or_parts (p a) (list_any p (range_with_len (a + 1) n)) none).1 (omega arith)

none_of : (p : ℕ → Bool) (ns : List ℕ) → ((n : ℕ) → p n ≡ false) → list_any p ns ≡ false
none_of p [] none = refl
none_of p (n ∷ ns) none = or_from (p n) (list_any p ns) (none n) (none_of p ns none)

unsettled_false : (b c : Bool) → (b && not c) ≡ false → b ≡ true → c ≡ true
unsettled_false true true none it = refl
unsettled_false true false none it = absurd cc
unsettled_false false c none it = absurd cc

-- a task of a settled scope neither waits nor runs
pub settled_task : (h : History) (s k : ℕ) (f : Forking) → settled h s ≡ true → forking h k ≡ Some f → f.scope ≡ s → is_settled (stage h k) ≡ true
unfolding settled is_task_of
settled_task h s k f so is in_it =
    let none = not-true (list_any (is_unsettled h s) (task_numbers h)) so in
    let it = forked_after h k f is in
    let here : is_unsettled h s k ≡ false = sym (ap (is_unsettled h s) it.2) ∙ none_at (is_unsettled h s) (h.base.tasks + 1) (forked_count h) it.0 none it.1 in
    unsettled_false (is_task_of h s k) (is_settled (stage h k)) here (ap (λ (o : Option Forking). option_map_or (λ (x : Forking). x.scope == s) o false) is ∙ eq-eqb f.scope s in_it)

both_false : (b c : Bool) → (b ≡ true → c ≡ true) → (b && not c) ≡ false
both_false true c so = ap not (so refl)
both_false false c so = refl

unsettled_by : (h : History) (s k : ℕ) (o : Option Forking) → forking h k ≡ o → ((f : Forking) → forking h k ≡ Some f → f.scope ≡ s → is_settled (stage h k) ≡ true) → (option_map_or (λ (x : Forking). x.scope == s) o false && not (is_settled (stage h k))) ≡ false
unsettled_by h s k None is all = refl
unsettled_by h s k (Some f) is all = both_false (f.scope == s) (is_settled (stage h k)) (λ it. all f is (eqb-true f.scope s it))

-- a scope is settled if each of its tasks is
pub settled_where_all : (h : History) (s : ℕ) → ((k : ℕ) (f : Forking) → forking h k ≡ Some f → f.scope ≡ s → is_settled (stage h k) ≡ true) → settled h s ≡ true
unfolding settled is_task_of
settled_where_all h s all = ap not (none_of (is_unsettled h s) (task_numbers h) (λ k. unsettled_by h s k (forking h k) refl (λ f is it. all k f is it)))
