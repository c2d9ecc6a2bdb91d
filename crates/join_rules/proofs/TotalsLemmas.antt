-- The totals of a list say when a joiner fires, and grow with each completion.
use Rattle.std.proofs.Common.{[], ◌++◌, ◌+◌, ◌||◌, ◌∙◌, ◌∷◌, ◌≡◌, Bool, List, ap, arith, cond, count_by, false, length, nat_lt, refl, true}
use Rattle.scope_rules.specs.declared.types.joiners.Policy.TheVariants.{All}
use Rattle.join_rules.specs.{Any, AwaitAll, AwaitOk, Completion, FailuresAtLeast, Policy, Rule, SuccessesAtLeast, SumAtLeast, Until, counted, fires, has_failed, has_succeeded, list_any, meets, totals_fire, totals_meet, totals_of}
use Rattle.join_rules.proofs.Words.{find-append, length_push, nat_tests, sum_by-cons, sum_by_push, total_of-push}

-- some element passes if at least one does
any_counted : {X : Type 0} (p : X → Bool) (xs : List X) → list_any p xs ≡ nat_lt 0 (count_by p xs)
any_counted p [] = refl
any_counted p (x ∷ xs) =
    rw (sum_by-cons (λ y. cond (p y) 1 0) x xs)
    (elim (p x) as (λ b. (b || list_any p xs) ≡ nat_lt 0 (cond b 1 0 + count_by p xs)) [
      | true ↦ grind (arith, nat_tests)
      | false ↦ any_counted p xs ∙ ap (nat_lt 0) (omega arith)
    ])

count-push : (p : Completion → Bool) (xs : List Completion) (d : Completion) → count_by p (xs ++ d ∷ []) ≡ cond (p d) (count_by p xs + 1) (count_by p xs)
count-push p xs d =
    sum_by_push (λ y. cond (p y) 1 0) xs d
    ∙ elim (p d) as (λ b. count_by p xs + cond b 1 0 ≡ cond b (count_by p xs + 1) (count_by p xs)) [ true ↦ refl | false ↦ omega arith ]

pub meets_by_totals : (rule : Rule) (xs : List Completion) → meets rule xs ≡ totals_meet rule (totals_of xs)
unfolding meets totals_meet totals_of
meets_by_totals (FailuresAtLeast n) xs = refl
meets_by_totals (SuccessesAtLeast n) xs = refl
meets_by_totals (SumAtLeast n) xs = refl

pub fires_by_totals : (policy : Policy) (xs : List Completion) → fires policy xs ≡ totals_fire policy (totals_of xs)
unfolding fires totals_fire totals_of
fires_by_totals All xs = any_counted has_failed xs
fires_by_totals Any xs = any_counted has_succeeded xs
fires_by_totals AwaitAll xs = refl
fires_by_totals AwaitOk xs = any_counted has_failed xs
fires_by_totals (Until rule) xs = meets_by_totals rule xs

pub totals-push : (xs : List Completion) (d : Completion) → totals_of (xs ++ d ∷ []) ≡ counted (totals_of xs) d
unfolding totals_of counted
totals-push xs d =
    let completions : length (xs ++ d ∷ []) ≡ length xs + 1 = length_push xs d in
    let failures = count-push has_failed xs d in
    let successes = count-push has_succeeded xs d in
    let first_failure = find-append has_failed xs (d ∷ []) in
    let first_success = find-append has_succeeded xs (d ∷ []) in
    let sum = total_of-push xs d in
    cc
