use Rattle.std.specs.Prelude.{◌≡◌}
use Rattle.quote_plan.specs.{BadName, NoForm, Some, fields, is_none, why_of_offer}
use Rattle.quote_plan.proofs.Words.{◌∙◌, ap, rules}
use Rattle.quote_plan.proofs.GoodForms.{offer_tells}
use Rattle.quote_plan.proofs.whys.why_of_offer.Goals as goal

pub returns-in_default-clause-good : goal.returns-in_default-clause-good
unfolding why_of_offer
returns-in_default-clause-good c =
    let why : Some NoForm ≡ why_of_offer (fields c.args.args.now) = search rules in ap is_none why ∙ offer_tells (fields c.args.args.now)

pub returns-then-is_none-clause-good : goal.returns-then-is_none-clause-good
unfolding why_of_offer
returns-then-is_none-clause-good c =
    let why : Some BadName ≡ why_of_offer (fields c.args.args.now) = search rules in ap is_none why ∙ offer_tells (fields c.args.args.now)

pub returns-clause-good : goal.returns-clause-good
unfolding why_of_offer
returns-clause-good c =
    let why : c.why_of_end.result ≡ why_of_offer (fields c.args.args.now) = search rules in ap is_none why ∙ offer_tells (fields c.args.args.now)
