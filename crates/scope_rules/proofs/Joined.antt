-- What is joined has an outcome.
use Rattle.std.proofs.Common.{ℕ, ◌||◌, ◌∙◌, ◌≡◌, ◌≤◌, Bool, None, Ok, Option, Some, add-one, ap, arith, cond, false, is_some, length, option_map, refl, suc, take, true, zero}
use Rattle.scope_rules.specs.{History.History, Opening, Scopes.joined, before, earliest, joining, joining_at, joins, known_scope, list_any, opening, option_and_then, option_or, outcome, outcome_check, outcome_of}
use Rattle.scope_rules.proofs.Words.{take_all}
use Rattle.scope_rules.proofs.{Accepted.checks_at, Accepted.entry_at, Accepted.not_not, Accepted.not_refused, Numbers.list_any-push, Owing.if_refused, Prefixes.take_at}

or_none_left : {A : Type 0} (o p : Option A) → option_or o p ≡ None → o ≡ None
or_none_left None p h = refl
or_none_left (Some x) p h = absurd cc

or_none_right : {A : Type 0} (o p : Option A) → option_or o p ≡ None → p ≡ None
or_none_right None p h = h
or_none_right (Some x) p h = absurd cc

not_joins : (b : Bool) (i : ℕ) → cond b (Some i) None ≡ None → b ≡ false
not_joins true i h = absurd cc
not_joins false i h = refl

no_join : (h : History) (s i : ℕ) → i ≤ length h.events → earliest (joining_at h s) i ≡ None → list_any (joins s) (take i h.events) ≡ false
unfolding earliest
no_join h s zero within none = refl
no_join h s (suc i) within none =
    let here = entry_at h.events i (omega arith) in
    let sooner = no_join h s i (omega arith) (or_none_left (earliest (joining_at h s) i) (joining_at h s i) none) in
    let there = or_none_right (earliest (joining_at h s) i) (joining_at h s i) none in
    let not_it : joins s here.0 ≡ false = not_joins (joins s here.0) i (rw here.1 at there) in
    rw (add-one i) at (ap (list_any (joins s)) (take_at h.events i here.0 here.1) ∙ (list_any-push (joins s) (take i h.events) here.0 ∙ (ap (λ b. b || joins s here.0) sooner ∙ not_it)))

no_outcome : (h : History) (s : ℕ) (o : Option Opening) (j : Option ℕ) → option_and_then (λ i. option_map (outcome_of (before h i) s) o) j ≡ None → is_some o ≡ true → j ≡ None
no_outcome h s o None none there = refl
no_outcome h s None (Some i) none there = absurd cc
no_outcome h s (Some o) (Some i) none there = absurd cc

-- if the checks of an outcome pass, there is one
pub outcome_there : (h : History) (s : ℕ) → outcome_check h s ≡ Ok tt → outcome h s ≡ None → ⊥
unfolding outcome_check outcome joining joined known_scope
outcome_there h s passed none =
    let given = not_not _ (not_refused _ _ (if_refused _ _ _ (checks_at _ 0 _ passed refl))) in
    let is_joined = not_not _ (not_refused _ _ (checks_at _ 1 _ passed refl)) in
    let unfound = no_outcome h s (opening h s) (earliest (joining_at h s) (length h.events)) none given in
    let not_joined = no_join h s (length h.events) (omega arith) unfound in
    let whole = ap (list_any (joins s)) (take_all (length h.events) h.events (omega arith)) in
    cc
