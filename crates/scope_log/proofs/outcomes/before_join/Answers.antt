-- If a join was found, one stands among the entries.
use Rattle.scope_log.specs.{is_join}
use Rattle.scope_log.proofs.Words.{◌∙◌, sym}
use Rattle.scope_log.proofs.FirstParts.{first_found}
use Rattle.scope_log.proofs.outcomes.before_join.Goals as goal

pub returns-in-Some-clause-none : goal.returns-in-Some-clause-none
returns-in-Some-clause-none c =
    let found = first_found is_join c.args.entries.now c.in-Some.place (sym c.position_of_join.ensures.place ∙ c.in-Some.is) in
    (λ is. absurd (cc), λ none. sym found.0 ∙ none)
