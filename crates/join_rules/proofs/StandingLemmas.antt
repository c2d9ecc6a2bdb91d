-- What a progress keeps answers for every list that it stands for.
use Rattle.std.proofs.Common.{[], ◌++◌, ◌∙◌, ◌∷◌, ◌≡◌, List, ap, count_by, length, refl, subst, sym, true}
use Rattle.join_rules.specs.{Completion, JoinerStanding.JoinerStanding, Rule, SameJoiner, StandsFor, Totals.Totals, Until, counted, find, fires, has_failed, has_succeeded, meets, totals_fire, totals_of}
use Rattle.join_rules.proofs.TotalsLemmas.{fires_by_totals, totals-push}

-- the kept totals say whether the joiner fires
pub fires_by_kept : (kept : JoinerStanding) (list : List Completion) → StandsFor kept list → totals_fire kept.policy kept.totals ≡ fires kept.policy list
fires_by_kept kept list stands =
    ap (totals_fire kept.policy) (sym stands.totals) ∙ sym (fires_by_totals kept.policy list)

-- and so does a closure that agrees with the rule, at the list that it is shown
pub fires_by_closure : (kept : JoinerStanding) (rule : Rule) (list : List Completion) → StandsFor kept list → kept.has_closure ≡ true → kept.policy ≡ Until rule → meets rule kept.seen ≡ fires kept.policy list
unfolding fires
fires_by_closure kept rule list stands has_closure until =
    ap (meets rule) (stands.seen has_closure) ∙ ap (λ p. fires p list) (sym until)

-- one completion more
pub stands-push : (old new : JoinerStanding) (list : List Completion) (d : Completion) → new.totals ≡ counted old.totals d → (old.has_closure ≡ true → new.seen ≡ old.seen ++ d ∷ []) → SameJoiner old new → StandsFor old list → StandsFor new (list ++ d ∷ [])
stands-push old new list d totals seen joiner stands = record {
  totals = totals-push list d ∙ ap (λ t. counted t d) stands.totals ∙ sym totals;
  seen = λ has_closure.
      let had = sym joiner.has_closure ∙ has_closure in
      seen had ∙ ap (λ xs. xs ++ d ∷ []) (stands.seen had);
}

-- what the readers tell of the list
pub record AreListed (kept : JoinerStanding) (list : List Completion) : Type 0 where
  pub completions : kept.totals.completions ≡ length list
  pub failures : kept.totals.failures ≡ count_by has_failed list
  pub successes : kept.totals.successes ≡ count_by has_succeeded list
  pub first_failure : kept.totals.first_failure ≡ find has_failed list
  pub first_success : kept.totals.first_success ≡ find has_succeeded list

pub are_listed : (kept : JoinerStanding) (list : List Completion) → StandsFor kept list → AreListed kept list
unfolding totals_of
are_listed kept list stands =
    subst (λ (t : Totals). AreListed (record kept { totals = t }) list) stands.totals (record { completions = refl; failures = refl; successes = refl; first_failure = refl; first_success = refl })
